-- What is known of a floor after a decision, which ends with an answer or a fault.
use Rattle.std.specs.Prelude.{◌≡◌, Result, Ok, Err}
use Rattle.agv_world_core.specs.Asks.{Facts}
use Rattle.agv_world_core.specs.declared.fault.Fault.{Fault}

-- the floor's world is unchanged if the floor is clean, and after a fault if it is also still open
abbrev pub LeavesWorld : {S A : Type 0} → Facts S → S → S → Result A Fault → Type 0
LeavesWorld f floor floor_then (Ok decision) = f.is_clean floor_then → f.world floor_then ≡ f.world floor
LeavesWorld f floor floor_then (Err why) = f.is_clean floor_then → f.is_open floor_then → f.world floor_then ≡ f.world floor
