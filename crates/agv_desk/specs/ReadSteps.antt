-- The calls that only read (this project's profile).
use Rattle.std.specs.Prelude.{ℕ, Bool, true, false, if◌then◌else◌, List, Option, None, Some}
use Rattle.std.specs.FinMap as finite
use Rattle.std.specs.Option.{option_map}
use Rattle.agv_header.specs.declared.key.VehicleKey.{VehicleKey}
use Rattle.agv_header.specs.declared.refusal.Refusal.TheVariants as refusal
use Rattle.agv_message_core.specs.declared.header.Header.{Header}
use Rattle.agv_message_core.specs.declared.instant.InstantKind.{InstantKind}
use Rattle.agv_order.specs.Messages.{message_of}
use Rattle.agv_order.specs.declared.trip.Trip.{Trip}
use Rattle.agv_world_core.specs.Questions.{row_of, trip_of, job_of}
use Rattle.agv_stock.specs.declared.job.Phase.{Phase}
use Rattle.agv_stock.specs.declared.job.Phase.TheVariants as phase
use Rattle.agv_world_core.specs.Carriers.{carrier_of}
use Rattle.agv_world_core.specs.Worlds.{World}
use Rattle.agv_world_core.specs.declared.floor.Carrier.{Carrier}
use Rattle.agv_world_core.specs.declared.row.JobRow.{JobRow}
use Rattle.agv_world_core.specs.declared.row.Sent.{Sent}
use Rattle.agv_world_core.specs.declared.row.VehicleRow.{VehicleRow}
use Rattle.agv_desk.specs.Outcomes.{Outcome, Made, refuse_if_none, answer_only}
use Rattle.agv_desk.specs.declared.answer.Answer.{Answer}
use Rattle.agv_desk.specs.declared.answer.Answer.TheVariants as answer
use Rattle.agv_desk.specs.declared.answer.OpenOrder.{OpenOrder}

-- the header of the last message of a topic
abbrev pub last_header : VehicleKey → Sent → Header
last_header key sent = record { number = sent.count; at = sent.at; key = key }

-- the last order message of an open trip, or NoMessage without one
abbrev pub order_told : VehicleKey → VehicleRow → Option Trip → Answer
order_told key row None = answer.NoMessage
order_told key row (Some trip) = answer.Order (last_header key row.orders) (message_of trip)

-- the last instantActions message while its action is pending, or else NoMessage
abbrev pub instant_told : VehicleKey → VehicleRow → Option InstantKind → Answer
instant_told key row None = answer.NoMessage
instant_told key row (Some kind) = answer.Instant (last_header key row.instants) (record { kind = kind })

-- GET .../order: NoVehicle
abbrev pub get_order : World → VehicleKey → Outcome
get_order world key =
    refuse_if_none (row_of world key) refusal.NoVehicle (λ row.
    Made (answer_only (order_told key row (trip_of world key))))

-- GET .../instantActions: NoVehicle
abbrev pub get_instant : World → VehicleKey → Outcome
get_instant world key =
    refuse_if_none (row_of world key) refusal.NoVehicle (λ row.
    Made (answer_only (instant_told key row row.pending)))

-- GET /loads/{load}: NoLoad
abbrev pub get_load : World → List ℕ → Outcome
get_load world load =
    refuse_if_none (finite.get world.places load) refusal.NoLoad (λ place.
    Made (answer_only (answer.Load load place (job_of world load))))

-- the job rides on a vehicle
abbrev pub is_riding : Phase → Bool
is_riding phase.Riding = true
is_riding _ = false

-- the vehicle that carries the job out, with the name of its order: of a riding job
abbrev pub carrier_told : World → List ℕ → JobRow → Option Carrier
carrier_told world job row = if is_riding row.phase then carrier_of world job else None

-- GET /jobs/{job}/phase: NoJob
abbrev pub get_job : World → List ℕ → Outcome
get_job world job =
    refuse_if_none (finite.get world.jobs job) refusal.NoJob (λ row.
    Made (answer_only (answer.Job job row (carrier_told world job row))))

-- the open order of a trip
abbrev pub open_order : Trip → OpenOrder
open_order trip = record { order = trip.order; sent = trip.sent; confirmed = trip.confirmed }

-- GET /vehicles/{m}/{s}: NoVehicle
abbrev pub get_vehicle : World → VehicleKey → Outcome
get_vehicle world key =
    refuse_if_none (row_of world key) refusal.NoVehicle (λ row.
    Made (answer_only (answer.Vehicle key row (option_map open_order (trip_of world key)))))
