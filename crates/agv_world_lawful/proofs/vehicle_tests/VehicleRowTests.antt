-- The row of a vehicle passes its test just where the vehicle is lawful by itself.
use Rattle.std.proofs.Common.{◌≡◌, ℕ, ◌<◌, nat_eq, nat_lt, ◌||◌, not, Bool, true, false, List, Option, Some, None, inl, inr, refl, ap, ◌∙◌}
use Rattle.std.proofs.lemmas.Bool.{and_parts, and_from, or_cases, cases_eq, eqb-false, eqb-true, eq-eqb, false≢true, leb-true, le-leb, lt-ltb, ltb-true, ne_eqb, not-true}
use Rattle.std.specs.FinMap as finite
use Rattle.std.specs.Option.{is_none}
use Rattle.agv_layout.specs.declared.edge.EdgeEnds.{EdgeEnds}
use Rattle.agv_message_core.specs.declared.instant.InstantKind.{InstantKind}
use Rattle.agv_world_core.specs.Lawful.{IsRestAt, IsSent}
use Rattle.agv_world_core.specs.LawfulParts.{IsVehicleOf}
use Rattle.agv_world_lawful.specs.LawfulTests.{is_counted, is_rest, is_vehicle_row, leads_so}
use Rattle.agv_world_core.specs.Told.{layout_of_tables}
use Rattle.agv_world_lawful.specs.Values.{IsSentValue, IsVehicleValue}
use Rattle.agv_world_core.specs.declared.row.Sent.{Sent}
use Rattle.agv_world_core.specs.declared.row.VehicleRow.{VehicleRow}
use Rattle.agv_world_core.specs.declared.world.World.{World as Tables}
use Rattle.agv_world_core.proofs.lists.Entries.{no_more}
use Rattle.agv_world_core.proofs.lists.SameNames.{name_same, same_name}

-- ---- what was sent
none_sent : (sent : Sent) → is_counted sent ≡ true → sent.count ≡ 0 → sent.at ≡ 0
none_sent sent is zero = elim (or_cases (not (nat_eq sent.count 0)) (nat_eq sent.at 0) is) [
  | inl some ↦ absurd (eqb-false sent.count 0 (not-true _ some) zero)
  | inr at ↦ eqb-true sent.at 0 at
]

sent_told : (sent : Sent) → IsSentValue sent → is_counted sent ≡ true → IsSent sent
sent_told sent value is = record { number = value.number; moment = value.moment; none = none_sent sent is }

or_right : (a b : Bool) → b ≡ true → (a || b) ≡ true
or_right true b e = refl
or_right false b e = e

or_left : (a b : Bool) → a ≡ true → (a || b) ≡ true
or_left true b e = refl
or_left false b e = absurd (false≢true e)

sent_again : (sent : Sent) → IsSent sent → is_counted sent ≡ true
sent_again sent is = elim (cases_eq sent.count 0) [
  | inl zero ↦ or_right (not (nat_eq sent.count 0)) (nat_eq sent.at 0) (eq-eqb sent.at 0 (is.none zero))
  | inr some ↦ or_left (not (nat_eq sent.count 0)) (nat_eq sent.at 0) (ap not (ne_eqb sent.count 0 some))
]

pending_told : (pending : Option InstantKind) (count : ℕ) → (is_none pending || nat_lt 0 count) ≡ true → (kind : InstantKind) → pending ≡ Some kind → 0 < count
pending_told None count is kind e = absurd (no_more kind e)
pending_told (Some other) count is kind e = ltb-true 0 count is

pending_again : (pending : Option InstantKind) (count : ℕ) → ((kind : InstantKind) → pending ≡ Some kind → 0 < count) → (is_none pending || nat_lt 0 count) ≡ true
pending_again None count is = refl
pending_again (Some kind) count is = lt-ltb 0 count (is kind refl)

-- ---- a rest
edge_told : (o : Option EdgeEnds) (start finish : List ℕ) → leads_so o start finish ≡ true → o ≡ Some (record { start = start; finish = finish })
edge_told None start finish is = absurd (false≢true is)
edge_told (Some ends) start finish is =
    let parts = and_parts _ _ is in
    let from = same_name ends.start start parts.0 in
    let to = same_name ends.finish finish parts.1 in
    λ i. Some (record { start = from i; finish = to i })

edge_again : (o : Option EdgeEnds) (start finish : List ℕ) → o ≡ Some (record { start = start; finish = finish }) → leads_so o start finish ≡ true
edge_again o start finish is = ap (λ e. leads_so e start finish) is ∙ and_from _ _ (name_same start start refl) (name_same finish finish refl)

module _ (tables : Tables) where
  rest_told : (node : List ℕ) (rest : Option (List ℕ × List ℕ)) → is_rest tables node rest ≡ true → IsRestAt (layout_of_tables tables) node rest
  rest_told node None is = tt
  rest_told node (Some rest) is = edge_told (finite.get tables.edges rest.0) node rest.1 is

  rest_again : (node : List ℕ) (rest : Option (List ℕ × List ℕ)) → IsRestAt (layout_of_tables tables) node rest → is_rest tables node rest ≡ true
  rest_again node None is = refl
  rest_again node (Some rest) is = edge_again (finite.get tables.edges rest.0) node rest.1 is

  -- ---- a vehicle
  pub vehicle_row_told : (seats : ℕ) (row : VehicleRow) → IsVehicleValue row → is_vehicle_row seats tables row ≡ true → IsVehicleOf seats (layout_of_tables tables) row
  vehicle_row_told seats row value is =
      let one = and_parts _ _ is in
      let seated = and_parts _ _ one.0 in
      let two = and_parts _ _ one.1 in
      let three = and_parts _ _ two.1 in
      let four = and_parts _ _ three.1 in
      let five = and_parts _ _ four.1 in
      record {
        carries = leb-true 1 row.capacity seated.0;
        seated = leb-true row.capacity seats seated.1;
        node = two.0;
        rest = rest_told row.node row.rest three.0;
        header = value.header;
        reported = value.reported;
        orders = sent_told row.orders value.orders four.0;
        instants = sent_told row.instants value.instants five.0;
        pending = pending_told row.pending row.instants.count five.1;
      }

  pub vehicle_row_again : (seats : ℕ) (row : VehicleRow) → IsVehicleOf seats (layout_of_tables tables) row → is_vehicle_row seats tables row ≡ true
  vehicle_row_again seats row is =
      and_from _ _ (and_from _ _ (le-leb 1 row.capacity is.carries) (le-leb row.capacity seats is.seated))
      (and_from _ _ is.node
      (and_from _ _ (rest_again row.node row.rest is.rest)
      (and_from _ _ (sent_again row.orders is.orders)
      (and_from _ _ (sent_again row.instants is.instants) (pending_again row.pending row.instants.count is.pending)))))
