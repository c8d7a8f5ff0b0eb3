use Rattle.agv_desk.proofs.exports.VehiclesTold.{told_by_itself, told_by_keys, told_of_world}
use Rattle.agv_desk.proofs.laws.reports.exports_vehicles.Goals as goal

pub returns-clause-all : goal.returns-clause-all
returns-clause-all c = told_of_world

pub returns-clause-once : goal.returns-clause-once
returns-clause-once c = told_by_keys

pub returns-clause-told : goal.returns-clause-told
returns-clause-told c seats world at vehicle among = told_by_itself world vehicle among
