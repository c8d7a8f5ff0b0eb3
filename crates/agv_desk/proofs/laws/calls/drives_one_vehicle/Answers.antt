use Rattle.agv_desk.proofs.outcomes.DrivenVehicle.{drives_one}
use Rattle.agv_desk.proofs.laws.calls.drives_one_vehicle.Goals as goal

pub returns : goal.returns
returns c seats world at order key to edges = drives_one world (record { at = at; order = order; key = key; to = to; edges = edges })
