use Rattle.std.proofs.Common.{◌≡◌, ℕ, ◌<◌, length, get_or}
use Rattle.agv_message_core.specs.declared.status.Status.TheVariants.{Waiting}
use Rattle.agv_track.specs.Judgements.{nth_status, new_statuses}
use Rattle.agv_track.proofs.reports.statuses_after.Given as goal

abbrev pub invariant-loop-n : goal.invariant-loop-n
invariant-loop-n l = (length l.statuses ≡ 8) × ((k : ℕ) → k < l.n → get_or l.statuses k Waiting ≡ nth_status (new_statuses l.trip l.state) k)
