-- The body of `StartOrder`, and the call that it makes (this project's profile).
use Rattle.std.specs.Prelude.{ℕ, List, [], ◌∷◌, Option, None, Some, Result, option_and_then, option_map, not, codes, if◌then◌else◌}
use Rattle.std.specs.Str.{bytes_eq}
use Rattle.serde_json.specs.Data.{Data}
use Rattle.agv_header.specs.Each.{each}
use Rattle.agv_header.specs.declared.refusal.Refusal.{Refusal}
use Rattle.agv_message_json.specs.Members.{has, items_at, text_at, whole_at}
use Rattle.agv_message_core.specs.declared.order.ActKind.{ActKind}
use Rattle.agv_message_core.specs.declared.order.ActKind.TheVariants.{Pick, Drop}
use Rattle.agv_order.specs.declared.stop.Stop.{Stop}
use Rattle.agv_face_http.specs.bodies.Members.{given, json_in, key_at, name_at}
use Rattle.agv_desk.specs.declared.call.Call.{Call}
use Rattle.agv_desk.specs.declared.call.Call.TheVariants as call

-- the kind of a stop, from its text
abbrev pub kind_of : List ℕ → Option ActKind
kind_of text =
    if bytes_eq text (codes "pick") then Some Pick
    else (if bytes_eq text (codes "drop") then Some Drop
    else None)

-- a stop {action, job}
unfoldable pub stop_in : Data → Option Stop
stop_in d =
    given (option_and_then kind_of (text_at (codes "action") d)) (λ kind.
    given (name_at (codes "job") d) (λ job.
    Some (record { kind = kind; job = job })))

-- the stops of the list `stops`, in order; the list may be empty
unfoldable pub listed_stops : Data → Option (List Stop)
listed_stops d = option_and_then (each stop_in) (items_at (codes "stops") d)

-- the two stops that pick and then drop the load of one job
abbrev pub both_stops : List ℕ → List Stop
both_stops job = record { kind = Pick; job = job } ∷ record { kind = Drop; job = job } ∷ []

-- the stops of `job` or of `stops`, but not of both: `job` is short for its two stops
unfoldable pub stops_from_json : Data → Option (List Stop)
stops_from_json d =
    if not (has (codes "stops") d) then option_map both_stops (name_at (codes "job") d)
    else (if has (codes "job") d then None
    else listed_stops d)

-- {order, manufacturer, serialNumber, edges}, and `job` or `stops`
unfoldable pub order_from_json : Data → Option Call
order_from_json d =
    given (name_at (codes "order") d) (λ order.
    given (key_at d) (λ key.
    given (whole_at (codes "edges") d) (λ edges.
    given (stops_from_json d) (λ stops.
    Some (call.StartOrder order key stops edges)))))

-- `StartOrder`; the desk decides which stops an order may make
unfoldable pub order_in : List ℕ → Result Call Refusal
order_in body = json_in order_from_json body
