-- The stops of an order: which lists of picks and drops can be carried out (this project's profile).
use Rattle.std.specs.Prelude.{ℕ, Bool, true, false, not, ◌&&◌, nat_eq, List, [], ◌∷◌, map, filter}
use Rattle.std.specs.List.{list_all}
use Rattle.std.specs.Cmp.Lexicographic.{pointwise}
use Rattle.agv_message_core.specs.declared.order.ActKind.{ActKind}
use Rattle.agv_message_core.specs.declared.order.ActKind.TheVariants.{Pick, Drop}
use Rattle.agv_order.specs.declared.stop.Stop.{Stop}

-- the act is a drop, not a pick
abbrev pub is_drop : ActKind → Bool
is_drop Pick = false
is_drop Drop = true

-- the act is a pick
abbrev pub is_pick : ActKind → Bool
is_pick kind = not (is_drop kind)

-- the stop is for this job
abbrev pub is_of : List ℕ → Stop → Bool
is_of job stop = pointwise nat_eq stop.job job

-- the picks and drops of a list of stops for a job, in their order
abbrev pub kinds_of : List Stop → List ℕ → List ActKind
kinds_of stops job = map (λ (stop : Stop). stop.kind) (filter (is_of job) stops)

-- the list is one pick, and then one drop
abbrev pub is_pick_then_drop : List ActKind → Bool
is_pick_then_drop [] = false
is_pick_then_drop (first ∷ []) = false
is_pick_then_drop (first ∷ (second ∷ [])) = is_pick first && is_drop second
is_pick_then_drop (first ∷ (second ∷ (third ∷ rest))) = false

-- each job in the list is picked once and, later in the list, dropped once; the list may be empty
abbrev pub are_paired : List Stop → Bool
are_paired stops = list_all (λ (one : Stop). is_pick_then_drop (kinds_of stops one.job)) stops

-- there is a stop, and each job in the list is picked once and, later in the list, dropped once
unfoldable pub stops_fit : List Stop → Bool
stops_fit [] = false
stops_fit (stop ∷ stops) = are_paired (stop ∷ stops)
