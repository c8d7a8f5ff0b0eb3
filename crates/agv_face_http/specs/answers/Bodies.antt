-- The JSON bodies of the desk's answers (this project's formats). Members are in the order of their names' bytes.
use Rattle.std.specs.Prelude.{ℕ, Bool, List, [], ◌∷◌, ◌++◌, Option, Some, None, map, codes}
use Rattle.serde_json.specs.Data.{Data, null}
use Rattle.agv_count.specs.Reports.{key_text, thing_text}
use Rattle.agv_header.specs.Refusal.{name_of, number_of}
use Rattle.agv_header.specs.declared.key.Thing.{Thing}
use Rattle.agv_header.specs.declared.key.VehicleKey.{VehicleKey}
use Rattle.agv_header.specs.declared.refusal.Refusal.{Refusal}
use Rattle.agv_header.specs.declared.refusal.Refusal.TheVariants as refusal
use Rattle.agv_message_core.specs.Instant.{instant_id}
use Rattle.agv_message_json.specs.Json.{field, list, object_of, text, truth, whole}
use Rattle.agv_stock.specs.declared.place.Place.{Place}
use Rattle.agv_stock.specs.declared.place.Place.TheVariants as place

-- `null` for an absent value
abbrev pub or_null : {A : Type 0} → (A → Data) → Option A → Data
or_null data_of None = null
or_null data_of (Some x) = data_of x

-- `{}`
abbrev pub done_data : Data
done_data = object_of []

-- `{"orderUpdateId":1}`
abbrev pub update_data : ℕ → Data
update_data n = object_of (field "orderUpdateId" (whole n) ∷ [])

-- `{"actionId":"instant-1"}`
abbrev pub instructed_data : ℕ → Data
instructed_data n = object_of (field "actionId" (text (instant_id n)) ∷ [])

-- `{"accepted":true}`
abbrev pub accepted_data : Bool → Data
accepted_data accepted = object_of (field "accepted" (truth accepted) ∷ [])

-- `{"moved":2,"unknown":["L7","L8"]}`
abbrev pub counted_data : ℕ → List (List ℕ) → Data
counted_data moved unknown = object_of (
    field "moved" (whole moved)
    ∷ field "unknown" (list (map text unknown))
    ∷ [])

-- `checking`, `left`, `station A` or `vehicle KIT/0001`
abbrev pub place_words : Place → List ℕ
place_words (place.Station id) = codes "station " ++ id
place_words (place.Vehicle key) = codes "vehicle " ++ key_text key
place_words place.Checking = codes "checking"
place_words place.Left = codes "left"

-- `{"job":null,"load":"L1","place":"station A"}`
abbrev pub load_data : List ℕ → Place → Option (List ℕ) → Data
load_data load place job = object_of (
    field "job" (or_null text job)
    ∷ field "load" (text load)
    ∷ field "place" (text (place_words place))
    ∷ [])

-- `{"name":"NoLoad","refusal":23}`
abbrev pub plain_refusal_data : Refusal → Data
plain_refusal_data r = object_of (
    field "name" (text (name_of r))
    ∷ field "refusal" (whole (number_of r))
    ∷ [])

-- `{"by":"KIT/0001","name":"Held","refusal":33,"what":"edge E12"}`: the vehicle that holds something
abbrev pub held_data : Thing → VehicleKey → Data
held_data what by = object_of (
    field "by" (text (key_text by))
    ∷ field "name" (text (name_of (refusal.Held what by)))
    ∷ field "refusal" (whole (number_of (refusal.Held what by)))
    ∷ field "what" (text (thing_text what))
    ∷ [])

-- `{"name":"WrongUpdate","refusal":44,"sent":2}`: with the last update that was sent
abbrev pub wrong_update_data : ℕ → Data
wrong_update_data sent = object_of (
    field "name" (text (name_of (refusal.WrongUpdate sent)))
    ∷ field "refusal" (whole (number_of (refusal.WrongUpdate sent)))
    ∷ field "sent" (whole sent)
    ∷ [])

-- a refusal's name and number, and its details if it has any
abbrev pub refusal_data : Refusal → Data
refusal_data (refusal.Held what by) = held_data what by
refusal_data (refusal.WrongUpdate sent) = wrong_update_data sent
refusal_data r = plain_refusal_data r
