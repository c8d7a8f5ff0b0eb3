-- An action as a JSON value (VDA 5050 2.0, action; this project's profile).
use Rattle.std.specs.Prelude.{ℕ, List, [], ◌∷◌, codes}
use Rattle.serde_json.specs.Data.{Data}
use Rattle.agv_message_json.specs.Json.{field, object_of, list, text}

-- a parameter of an action
abbrev pub parameter : List ℕ → List ℕ → Data
parameter key value = object_of (field "key" (text key) ∷ field "value" (text value) ∷ [])

-- an action, which blocks driving and every other action
unfoldable pub action_data : List ℕ → List ℕ → List Data → Data
action_data id kind parameters = object_of (
    field "actionId" (text id)
    ∷ field "actionParameters" (list parameters)
    ∷ field "actionType" (text kind)
    ∷ field "blockingType" (text (codes "HARD"))
    ∷ [])
