-- The instantActions message as a JSON value (VDA 5050 2.0, instantActions; this project's profile).
use Rattle.std.specs.Prelude.{ℕ, [], ◌∷◌, codes}
use Rattle.serde_json.specs.Data.{Data}
use Rattle.agv_header.specs.Stamp.{stamp_of}
use Rattle.agv_message_json.specs.Action.{action_data}
use Rattle.agv_message_json.specs.Json.{field, object_of, list, text, whole}
use Rattle.agv_message_core.specs.Instant.{instant_id, instant_name}
use Rattle.agv_message_core.specs.declared.header.Header.{Header}
use Rattle.agv_message_core.specs.declared.instant.InstantKind.{InstantKind}
use Rattle.agv_message_core.specs.declared.instant.InstantMessage.{InstantMessage}

-- the message's one action, which has no parameters
abbrev pub instant_act_data : ℕ → InstantKind → Data
instant_act_data n kind = action_data (instant_id n) (instant_name kind) []

-- the message as a JSON object
unfoldable pub instant_data : Header → InstantMessage → Data
instant_data header message = object_of (
    field "actions" (list (instant_act_data header.number message.kind ∷ []))
    ∷ field "headerId" (whole header.number)
    ∷ field "manufacturer" (text header.key.manufacturer)
    ∷ field "serialNumber" (text header.key.serial)
    ∷ field "timestamp" (text (stamp_of header.at))
    ∷ field "version" (text (codes "2.0.0"))
    ∷ [])
