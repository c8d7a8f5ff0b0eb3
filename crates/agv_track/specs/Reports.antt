-- The actions that a state lists (VDA 5050 2.0, actionStates).
use Rattle.std.specs.Prelude.{ℕ, Bool, true, false, ◌&&◌, nat_lt, nat_eq, List, map, count_by, find, Option, None, Some}
use Rattle.std.specs.List.{enumerate_from, list_any, zip}
use Rattle.std.specs.Option.{option_map, unwrap_or}
use Rattle.std.specs.Cmp.Lexicographic.{pointwise}
use Rattle.agv_message_core.specs.Instant.{instant_id}
use Rattle.agv_message_core.specs.Order.{act_id}
use Rattle.agv_message_core.specs.declared.instant.InstantKind.{InstantKind}
use Rattle.agv_message_core.specs.declared.instant.InstantKind.TheVariants.{StartPause, StopPause, CancelOrder}
use Rattle.agv_message_core.specs.declared.status.Status.{Status}
use Rattle.agv_order.specs.declared.act.Act.{Act}
use Rattle.agv_order.specs.Statuses.{is_finished, is_final}
use Rattle.agv_track.specs.declared.pending.Pending.{Pending}

-- the actions that a state lists: the id and the status of each
abbrev pub Reports : Type 0
Reports = List (List ℕ × Status)

-- the listed action has this id
abbrev pub is_of : List ℕ → List ℕ × Status → Bool
is_of id report = pointwise nat_eq report.0 id

-- the id is listed twice or more, whatever the statuses
abbrev pub is_twice : Reports → List ℕ → Bool
is_twice reports id = nat_lt 1 (count_by (is_of id) reports)

-- the status listed for the id, the first if there are several; none if it is not listed
abbrev pub told : Reports → List ℕ → Option Status
told reports id = option_map (λ (report : List ℕ × Status). report.1) (find (is_of id) reports)

-- ---- the acts of a trip: act n of the order O is the action `O.n`

-- the id of some act is listed twice or more
abbrev pub has_act_twice : Reports → List ℕ → List Act → Bool
has_act_twice reports order acts = list_any (λ (numbered : ℕ × Act). is_twice reports (act_id order numbered.0)) (enumerate_from 0 acts)

-- the status of an act after the state: the listed one, otherwise the one before
abbrev pub status_after : Reports → List ℕ → ℕ × Act → Status
status_after reports order numbered = unwrap_or (told reports (act_id order numbered.0)) numbered.1.status

-- the statuses of the acts after the state
abbrev pub statuses_after : Reports → List ℕ → List Act → List Status
statuses_after reports order acts = map (status_after reports order) (enumerate_from 0 acts)

-- the act with a new status
abbrev pub with_status : Act × Status → Act
with_status renewed = record renewed.0 { status = renewed.1 }

-- the acts with these new statuses
abbrev pub renewed : List Act → List Status → List Act
renewed acts statuses = map with_status (zip acts statuses)

-- ---- the pending action: the instant action of message n is `instant-n`

-- the id of the pending action is listed twice or more
abbrev pub has_pending_twice : Reports → Option Pending → Bool
has_pending_twice reports None = false
has_pending_twice reports (Some pending) = is_twice reports (instant_id pending.number)

-- the listed status of the pending action, if there is one
abbrev pub pending_told : Reports → Option Pending → Option Status
pending_told reports None = None
pending_told reports (Some pending) = told reports (instant_id pending.number)

-- the pending action is listed as finished or failed
abbrev pub is_pending_over : Reports → Option Pending → Bool
is_pending_over reports pending = unwrap_or (option_map is_final (pending_told reports pending)) false

-- the instant action is a cancelOrder
abbrev pub is_cancel : InstantKind → Bool
is_cancel StartPause = false
is_cancel StopPause = false
is_cancel CancelOrder = true

-- the pending action is a cancelOrder
abbrev pub is_pending_cancel : Option Pending → Bool
is_pending_cancel None = false
is_pending_cancel (Some pending) = is_cancel pending.kind

-- the pending cancelOrder is listed as finished
abbrev pub is_cancelled : Reports → Option Pending → Bool
is_cancelled reports pending = is_pending_cancel pending && unwrap_or (option_map is_finished (pending_told reports pending)) false
