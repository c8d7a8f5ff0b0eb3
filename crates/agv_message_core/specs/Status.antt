-- The statuses of an action (VDA 5050 2.0, actionStatus).
use Rattle.std.specs.Prelude.{◌≡◌, ℕ, List, [], ◌∷◌, Option, Some, codes, refl}
use Rattle.std.specs.List.{find}
use Rattle.std.specs.Str.{bytes_eq}
use Rattle.agv_message_core.specs.declared.status.Status.{Status}
use Rattle.agv_message_core.specs.declared.status.Status.TheVariants.{Waiting, Initializing, Running, Paused, Finished, Failed}

-- the text of a status
abbrev pub status_name : Status → List ℕ
status_name Waiting = codes "WAITING"
status_name Initializing = codes "INITIALIZING"
status_name Running = codes "RUNNING"
status_name Paused = codes "PAUSED"
status_name Finished = codes "FINISHED"
status_name Failed = codes "FAILED"

-- all statuses
abbrev pub statuses : List Status
statuses = Waiting ∷ Initializing ∷ Running ∷ Paused ∷ Finished ∷ Failed ∷ []

-- the status with this text, if there is one
unfoldable pub status_of : List ℕ → Option Status
status_of text = find (λ status. bytes_eq text (status_name status)) statuses

-- `status_of` reads a status back from its text
pub status_of-name : (status : Status) → status_of (status_name status) ≡ Some status
unfolding status_of
status_of-name Waiting = refl
status_of-name Initializing = refl
status_of-name Running = refl
status_of-name Paused = refl
status_of-name Finished = refl
status_of-name Failed = refl
