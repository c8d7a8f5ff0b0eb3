-- What a floor knows as a decision ends.
use Rattle.std.proofs.Common.{◌≡◌, Result, Ok, Err}
use Rattle.agv_world_core.specs.Asks.{Asks, Facts, IsStill, failed_by}
use Rattle.agv_world_core.specs.Worlds.{World}
use Rattle.agv_world_core.specs.declared.fault.Fault.{Fault}
use Rattle.agv_world_core.proofs.lists.Asking.{kept_here, left}
use Rattle.agv_desk.specs.DecisionEnds.{LeavesWorld}

module _ {S A : Type 0} (f : Facts S) (floor floor_then : S) (says : World → A → Type 0) where
  pub ends_failed : (result : Result A Fault) → Asks f floor floor_then result says → f.failed floor_then ≡ failed_by result (f.failed floor)
  unfolding IsStill
  ends_failed (Ok decision) asked = (asked.kept floor kept_here).still.failed
  ends_failed (Err why) asked = (left why asked).failed

  pub leaves_seats : (result : Result A Fault) → Asks f floor floor_then result says → f.seats floor_then ≡ f.seats floor
  unfolding IsStill
  leaves_seats (Ok decision) asked = (asked.kept floor kept_here).still.seats
  leaves_seats (Err why) asked = (left why asked).seats

  pub leaves_world : (result : Result A Fault) → Asks f floor floor_then result says → LeavesWorld f floor floor_then result
  leaves_world (Ok decision) asked = asked.world
  leaves_world (Err why) asked = (left why asked).world
