-- The description of a vehicle as a JSON value (this project's formats). Members are in the order of their names' bytes.
use Rattle.std.specs.Prelude.{ℕ, Bool, List, [], ◌∷◌, Option, option_map, option_and_then, is_some}
use Rattle.serde_json.specs.Data.{Data}
use Rattle.agv_header.specs.declared.key.VehicleKey.{VehicleKey}
use Rattle.agv_message_core.specs.Instant.{instant_name}
use Rattle.agv_message_json.specs.Json.{field, object_of, text, truth, whole}
use Rattle.agv_world_core.specs.declared.row.VehicleRow.{VehicleRow}
use Rattle.agv_desk.specs.declared.answer.OpenOrder.{OpenOrder}
use Rattle.agv_face_http.specs.answers.Bodies.{or_null}

-- `headerId` is null where no state's number is known, and `pending` where there is no instant action
abbrev pub vehicle_parts : Bool → VehicleKey → VehicleRow → Option (List ℕ) → Option ℕ → Option ℕ → Data
vehicle_parts astray key row order sent confirmed = object_of (
    field "astray" (truth astray)
    ∷ field "capacity" (whole row.capacity)
    ∷ field "confirmed" (or_null whole confirmed)
    ∷ field "headerId" (or_null whole row.last_header)
    ∷ field "manufacturer" (text key.manufacturer)
    ∷ field "node" (text row.node)
    ∷ field "order" (or_null text order)
    ∷ field "paused" (truth row.paused)
    ∷ field "pending" (or_null (λ kind. text (instant_name kind)) row.pending)
    ∷ field "ready" (truth row.ready)
    ∷ field "sent" (or_null whole sent)
    ∷ field "serialNumber" (text key.serial)
    ∷ [])

-- the vehicle is `astray` where its row has a rest; `order`, `sent` and `confirmed` are null where no order is open, and `confirmed` also until one of its updates is confirmed
abbrev pub vehicle_data : VehicleKey → VehicleRow → Option OpenOrder → Data
vehicle_data key row order =
    vehicle_parts (is_some row.rest) key row (option_map (λ o. o.order) order) (option_map (λ o. o.sent) order) (option_and_then (λ o. o.confirmed) order)
