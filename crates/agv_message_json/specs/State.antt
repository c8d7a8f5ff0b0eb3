-- The state message that a JSON value holds, or its refusal (VDA 5050 2.0, state; this project's profile).
use Rattle.std.specs.Prelude.{ℕ, ◌&&◌, ◌||◌, List, [], Bool, false, not, if◌then◌else◌, Option, Some, None, Result, Ok, Err, is_some, unwrap_or, option_and_then, codes, nat_eq}
use Rattle.std.specs.List.{list_any, starts_with}
use Rattle.std.specs.Str.{bytes_eq}
use Rattle.serde_json.specs.Data.{Data}
use Rattle.agv_header.specs.Stamp.{moment_said}
use Rattle.agv_header.specs.declared.refusal.Refusal.{Refusal}
use Rattle.agv_header.specs.declared.refusal.Refusal.TheVariants as refusal
use Rattle.agv_message_json.specs.Members.{member_at, whole_at, text_at, items_at, truth_at, both}
use Rattle.agv_header.specs.Each.{each}
use Rattle.agv_message_json.specs.Position.{has_position}
use Rattle.agv_message_core.specs.Status.{status_of}
use Rattle.agv_message_core.specs.declared.state.StateMessage.{StateMessage}
use Rattle.agv_message_core.specs.declared.status.Status.{Status}

-- the sequence numbers of the nodes still to be traversed
unfoldable pub node_seqs_at : Data → Option (List ℕ)
node_seqs_at d = option_and_then (each (whole_at (codes "sequenceId"))) (items_at (codes "nodeStates") d)

-- the status of an action
unfoldable pub status_at : Data → Option Status
status_at d = option_and_then status_of (text_at (codes "actionStatus") d)

-- an action: its id and its status
unfoldable pub action_at : Data → Option (List ℕ × Status)
action_at d = both (text_at (codes "actionId") d) (status_at d)

-- the actions that are reported, in the order of the message
unfoldable pub actions_at : Data → Option (List (List ℕ × Status))
actions_at d = option_and_then (each action_at) (items_at (codes "actionStates") d)

-- the levels of the errors that are reported
unfoldable pub levels_at : Data → Option (List (List ℕ))
levels_at d = option_and_then (each (text_at (codes "errorLevel"))) (items_at (codes "errors") d)

-- the emergency stop that is reported
unfoldable pub stop_at : Data → Option (List ℕ)
stop_at d = option_and_then (text_at (codes "eStop")) (member_at (codes "safetyState") d)

-- the state has the header members of every message, each of the right kind
unfoldable pub has_opening : Data → Bool
has_opening d =
    is_some (whole_at (codes "headerId") d) && is_some (text_at (codes "timestamp") d)
    && is_some (text_at (codes "version") d) && is_some (text_at (codes "manufacturer") d)
    && is_some (text_at (codes "serialNumber") d)

-- the state has the members of the vehicle's progress in its order, each of the right kind
unfoldable pub has_progress : Data → Bool
has_progress d =
    is_some (text_at (codes "orderId") d) && is_some (whole_at (codes "orderUpdateId") d)
    && is_some (text_at (codes "lastNodeId") d) && is_some (whole_at (codes "lastNodeSequenceId") d)

-- the state has the members that tell whether the vehicle is ready and paused, each of the right kind
unfoldable pub has_condition : Data → Bool
has_condition d =
    is_some (text_at (codes "operatingMode") d) && is_some (stop_at d)
    && is_some (levels_at d) && is_some (truth_at (codes "paused") d)

-- one of these members is absent though required, or of the wrong kind
abbrev pub lacks_members : Data → Bool
lacks_members d = not (has_opening d && has_progress d && has_condition d)

-- a required member is absent, or one that is read is of the wrong kind; the lists are read last
unfoldable pub is_bad : Data → Bool
is_bad d = lacks_members d || not (is_some (node_seqs_at d) && is_some (actions_at d))

-- the string of this name, in a state that isn't bad
abbrev pub text : List ℕ → Data → List ℕ
text name d = unwrap_or (text_at name d) []

-- the number of this name, in a state that isn't bad
abbrev pub whole : List ℕ → Data → ℕ
whole name d = unwrap_or (whole_at name d) 0

-- the message is of another major version than 2
unfoldable pub is_other_version : Data → Bool
is_other_version d = not (starts_with nat_eq (text (codes "version") d) (codes "2."))

-- the mode is one of the two in which the master control is in control of the vehicle
abbrev pub is_automatic : List ℕ → Bool
is_automatic mode = bytes_eq mode (codes "AUTOMATIC") || bytes_eq mode (codes "SEMIAUTOMATIC")

-- an error of this level stops the vehicle
abbrev pub is_fatal : List ℕ → Bool
is_fatal level = bytes_eq level (codes "FATAL")

-- the vehicle is in an automatic mode, with no emergency stop and no fatal error
abbrev pub is_ready : List ℕ → List ℕ → List (List ℕ) → Bool
is_ready mode stop levels =
    is_automatic mode && bytes_eq stop (codes "NONE") && not (list_any is_fatal levels)

-- the message of a state that isn't bad, with its moment
unfoldable pub state_message : ℕ → Data → StateMessage
state_message at d = record {
  header_id = whole (codes "headerId") d;
  at = at;
  manufacturer = text (codes "manufacturer") d;
  serial = text (codes "serialNumber") d;
  order_id = text (codes "orderId") d;
  update = whole (codes "orderUpdateId") d;
  last_node = text (codes "lastNodeId") d;
  last_seq = whole (codes "lastNodeSequenceId") d;
  node_seqs = unwrap_or (node_seqs_at d) [];
  actions = unwrap_or (actions_at d) [];
  ready = is_ready (text (codes "operatingMode") d) (unwrap_or (stop_at d) []) (unwrap_or (levels_at d) []);
  paused = unwrap_or (truth_at (codes "paused") d) false;
}

-- the message with this moment, or BadTimestamp if there is none
abbrev pub stamped : Option ℕ → Data → Result StateMessage Refusal
stamped None d = Err refusal.BadTimestamp
stamped (Some at) d = Ok (state_message at d)

-- the message of a state that has no position, or its refusal
abbrev pub state_or_refusal : Data → Result StateMessage Refusal
state_or_refusal d =
    if is_bad d then Err refusal.BadBody
    else (if is_other_version d then Err refusal.Version
    else stamped (moment_said (text (codes "timestamp") d)) d)

-- the message, or the first of these refusals that holds: Position, BadBody, Version, BadTimestamp
abbrev pub state_of : Data → Result StateMessage Refusal
state_of d = if has_position d then Err refusal.Position else state_or_refusal d
