-- The calls that send a vehicle an instant action: to cancel its order, to pause or to resume (VDA 5050 2.0, instantActions; this project's profile).
use Rattle.std.specs.Prelude.{ℕ, is_none, is_some, Some}
use Rattle.agv_header.specs.Count.{next_number}
use Rattle.agv_header.specs.declared.key.VehicleKey.{VehicleKey}
use Rattle.agv_header.specs.declared.refusal.Refusal.TheVariants as refusal
use Rattle.agv_message_core.specs.declared.instant.InstantKind.{InstantKind}
use Rattle.agv_message_core.specs.declared.instant.InstantKind.TheVariants as instant
use Rattle.agv_world_core.specs.Questions.{row_of, trip_of}
use Rattle.agv_world_core.specs.Worlds.{World}
use Rattle.agv_world_core.specs.declared.row.VehicleRow.{VehicleRow}
use Rattle.agv_desk.specs.Outcomes.{Outcome, Made, RowOnly, refuse_unless, refuse_if_none, answer_only}
use Rattle.agv_desk.specs.declared.answer.Answer.TheVariants as answer

-- an instant action is sent to the vehicle: InstantPending if one is pending, Spent
abbrev pub instruct : ℕ → VehicleKey → VehicleRow → InstantKind → Outcome
instruct at key row kind =
    refuse_unless (is_none row.pending) refusal.InstantPending
    (refuse_if_none (next_number row.instants.count) refusal.Spent (λ number.
    Made (record (answer_only (answer.Instructed number)) { touched = RowOnly key row (record row { instants = record { count = number; at = at }; pending = Some kind }) })))

-- POST .../cancel: NoVehicle, NoOrder if no trip is open, InstantPending, Spent
abbrev pub cancel : World → ℕ → VehicleKey → Outcome
cancel world at key =
    refuse_if_none (row_of world key) refusal.NoVehicle (λ row.
    refuse_unless (is_some (trip_of world key)) refusal.NoOrder
    (instruct at key row instant.CancelOrder))

-- POST .../pause: NoVehicle, InstantPending, Spent
abbrev pub pause : World → ℕ → VehicleKey → Outcome
pause world at key =
    refuse_if_none (row_of world key) refusal.NoVehicle (λ row.
    instruct at key row instant.StartPause)

-- POST .../resume: NoVehicle, InstantPending, Spent
abbrev pub resume : World → ℕ → VehicleKey → Outcome
resume world at key =
    refuse_if_none (row_of world key) refusal.NoVehicle (λ row.
    instruct at key row instant.StopPause)
