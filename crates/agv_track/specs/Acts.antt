-- Tests of acts that the code makes. No public clause cites this.
use Rattle.std.specs.Prelude.{◌≡◌, ℕ, Bool, not, ◌&&◌, nat_eq, List}
use Rattle.std.specs.List.{zip}
use Rattle.std.specs.Cmp.Lexicographic.{pointwise}
use Rattle.agv_message_core.specs.declared.state.StateMessage.{StateMessage}
use Rattle.agv_message_core.specs.declared.status.Status.{Status}
use Rattle.agv_order.specs.Statuses.{is_finished}
use Rattle.agv_order.specs.Stops.{is_drop}
use Rattle.agv_order.specs.declared.act.Act.{Act}
use Rattle.agv_order.specs.declared.trip.Trip.{Trip}
use Rattle.agv_track.specs.Judgements.{new_statuses}

-- the act is a finished pick of the job
abbrev pub is_pick_of : List ℕ → Act → Bool
is_pick_of job act = not (is_drop act.kind) && is_finished act.status && pointwise nat_eq act.job job

-- the statuses begin with those of the trip's acts after the state
abbrev pub AreNew : Trip → StateMessage → List Status → Type 0
AreNew trip state statuses = zip trip.acts statuses ≡ zip trip.acts (new_statuses trip state)
