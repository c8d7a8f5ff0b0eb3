-- How open trips are stored in rows: each has one row for its journey, and one for each of its acts.
use Rattle.std.specs.Prelude.{ℕ, nat_eq, Bool, List, [], map, Option, None, Some}
use Rattle.std.specs.Cmp.Lexicographic.{pointwise}
use Rattle.std.specs.FinMap as finite
use Rattle.std.specs.List.{enumerate_from, flat_map}
use Rattle.agv_header.specs.Name.{name_cmp}
use Rattle.agv_order.specs.declared.act.Act.{Act}
use Rattle.agv_world_core.specs.declared.row.TripRow.{TripRow}
use Rattle.agv_store_rows.specs.ActKeys.{act_cmp}
use Rattle.agv_store_rows.specs.declared.act_key.ActKey.{ActKey}
use Rattle.agv_store_rows.specs.declared.act_row.ActRow.{ActRow}
use Rattle.agv_store_rows.specs.declared.journey_row.JourneyRow.{JourneyRow}

-- ---- one trip

-- the journey row of a trip
abbrev pub journey_of : TripRow → JourneyRow
journey_of trip = record {
  vehicle = trip.vehicle;
  start = trip.start;
  first = trip.first;
  base = trip.base;
  sent = trip.sent;
  confirmed = trip.confirmed;
  seen = trip.seen;
}

-- the row of an act
abbrev pub act_row : Act → ActRow
act_row act = record { job = act.job; kind = act.kind; place_at = act.place_at; status = act.status }

-- the key of act n of an order
abbrev pub act_key : List ℕ → ℕ → ActKey
act_key order n = record { order = order; n = n }

-- the row of an act with its key
abbrev pub numbered_act : List ℕ → ℕ × Act → ActKey × ActRow
numbered_act order numbered = (act_key order numbered.0, act_row numbered.1)

-- the rows of acts that are numbered from n
abbrev pub act_rows_from : List ℕ → ℕ → List Act → List (ActKey × ActRow)
act_rows_from order n acts = map (numbered_act order) (enumerate_from n acts)

-- the rows of the acts of a trip, which are numbered from 0
abbrev pub act_rows : List ℕ → TripRow → List (ActKey × ActRow)
act_rows order trip = act_rows_from order 0 trip.acts

-- ---- all trips

-- the rows of all journeys, in the order of the order ids
abbrev pub journey_rows : finite.FinMap name_cmp TripRow → List (List ℕ × JourneyRow)
journey_rows trips = map (λ (entry : List ℕ × TripRow). (entry.0, journey_of entry.1)) (finite.entries trips)

-- the rows of all acts, by order id and number
abbrev pub all_act_rows : finite.FinMap name_cmp TripRow → List (ActKey × ActRow)
all_act_rows trips = flat_map (λ (entry : List ℕ × TripRow). act_rows entry.0 entry.1) (finite.entries trips)

-- the table of the journeys
unfoldable pub journeys_of : finite.FinMap name_cmp TripRow → finite.FinMap name_cmp JourneyRow
journeys_of trips = finite.from_entries (journey_rows trips)

-- the table of the acts
unfoldable pub acts_of : finite.FinMap name_cmp TripRow → finite.FinMap act_cmp ActRow
acts_of trips = finite.from_entries (all_act_rows trips)

-- ---- the rows of one order

-- the rows of a value, if there is one
abbrev pub rows_if : {X B : Type 0} → (X → List B) → Option X → List B
rows_if rows None = []
rows_if rows (Some x) = rows x

-- the row is of an act of this order
abbrev pub is_of : List ℕ → ActKey × ActRow → Bool
is_of order row = pointwise nat_eq row.0.order order

-- the row is of the journey of this order
abbrev pub is_journey_of : List ℕ → List ℕ × JourneyRow → Bool
is_journey_of order row = pointwise nat_eq row.0 order
