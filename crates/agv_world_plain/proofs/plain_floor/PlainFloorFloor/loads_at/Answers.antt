use Rattle.std.proofs.Common.{rules, ◌≡◌, refl, Err}
use Rattle.agv_world_core.specs.declared.fault.Fault.TheVariants.{Memory}
use Rattle.agv_world_core.proofs.lists.Asking.{fault_after, faults, still_here}
use Rattle.agv_world_plain.proofs.plain_floor.PlainFloorFloor.loads_at.Goals as goal

pub returns-in_err-loads_at : goal.returns-in_err-loads_at
returns-in_err-loads_at c =
    let fault : c.from_residual.result ≡ Err Memory = search rules in
    rw fault (faults Memory (fault_after Memory refl still_here))
