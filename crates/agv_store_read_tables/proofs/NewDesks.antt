-- The rows of a new desk are those of the world that knows nothing yet.
use Rattle.std.proofs.Common.{◌≡◌, ◌∙◌, ◌||◌, ℕ, false, List, [], ◌∷◌, Ordering, is_eq, refl, sym, ap}
use Rattle.std.proofs.lemmas.Bool.{true≢false}
use Rattle.std.proofs.lemmas.List.{nil_from_length}
use Rattle.std.proofs.lemmas.Cmp.{nat_cmp_total, nat_list_cmp_total, tied_itself}
use Rattle.std.specs.Cmp.{IsTotalOrder}
use Rattle.std.specs.FinMap as finite
use Rattle.std.specs.FinSet as set
use Rattle.std.specs.List.{list_any}
use Rattle.std.specs.Ordering.{eq_by_cmp, nat_cmp}
use Rattle.agv_header.specs.Key.{key_cmp, thing_cmp}
use Rattle.agv_header.specs.Name.{name_cmp}
use Rattle.agv_header.specs.SchemaNumber.{schema_number}
use Rattle.agv_header.specs.Spread.{spread}
use Rattle.agv_header.specs.declared.key.Thing.{Thing}
use Rattle.agv_header.specs.declared.key.VehicleKey.{VehicleKey}
use Rattle.agv_layout.specs.declared.edge.EdgeEnds.{EdgeEnds}
use Rattle.agv_layout.specs.declared.station.StationSite.{StationSite}
use Rattle.agv_stock.specs.declared.place.Place.{Place}
use Rattle.agv_world_core.specs.KeyOrders.{use_cmp-total}
use Rattle.agv_world_core.specs.Keys.{leg_cmp, use_cmp}
use Rattle.agv_store_rows.specs.TripRows.{acts_of, journeys_of}
use Rattle.agv_world_core.specs.Maps.{Maps, maps_of, vehicle_rows, trip_rows, leg_rows, hold_rows}
use Rattle.agv_world_core.specs.Worlds.{empty_world}
use Rattle.agv_world_core.specs.declared.key.LegKey.{LegKey}
use Rattle.agv_world_core.specs.declared.key.UseKey.{UseKey}
use Rattle.agv_world_core.specs.declared.row.JobRow.{JobRow}
use Rattle.agv_world_core.specs.declared.row.TripRow.{TripRow}
use Rattle.agv_world_core.specs.declared.row.VehicleRow.{VehicleRow}
use Rattle.agv_store_create.specs.DeskTables.{first_rows}
use Rattle.agv_store_rows.specs.Rows.{row_lists, rows_of}
use Rattle.agv_store_rows.proofs.TripRowLaws.{ActsListed, JourneysListed}

pub no_entries : {K X : Type 0} (R : K → K → Ordering) → finite.entries (finite.empty {K = K} {X = X} {R = R}) ≡ []
no_entries {K} {X} R = nil_from_length _ (sym (finite.len-entries (finite.empty {K = K} {X = X} {R = R})) ∙ finite.len-empty R X)

-- a list in which nothing is
no_members : {K : Type 0} (R : K → K → Ordering) → IsTotalOrder R → (xs : List K) → ((q : K) → list_any (eq_by_cmp R q) xs ≡ false) → xs ≡ []
no_members R total [] none = refl
no_members R total (x ∷ xs) none = absurd (true≢false (sym (ap (λ o. is_eq o || list_any (eq_by_cmp R x) xs) (tied_itself total x)) ∙ none x))

no_items : {K : Type 0} (R : K → K → Ordering) → IsTotalOrder R → set.items (set.empty {K = K} {R = R}) ≡ []
no_items {K} R total = no_members R total _ (λ q. sym (set.contains-items (set.empty {K = K} {R = R}) q) ∙ set.contains-empty R q)

nothing_spread : {K X Q Y : Type 0} (R : K → K → Ordering) (S : Q → Q → Ordering) (rows : K → X → List (Q × Y)) → spread S rows (finite.empty {K = K} {X = X} {R = R}) ≡ finite.empty
unfolding spread
nothing_spread {K} {X} R S rows = rw (no_entries {K = K} {X = X} R)

-- the row of the schema's number, and nothing else
abbrev nothing : Maps
nothing = record {
  meta = finite.insert finite.empty 1 schema_number;
  nodes = set.empty;
  edges = finite.empty;
  stations = finite.empty;
  vehicles = finite.empty;
  trips = finite.empty;
  legs = finite.empty;
  loads = finite.empty;
  jobs = finite.empty;
  holds = finite.empty;
  used = set.empty;
}

rows_of_nothing : maps_of empty_world ≡ nothing
rows_of_nothing = rw (
  nothing_spread key_cmp key_cmp vehicle_rows,
  nothing_spread key_cmp name_cmp trip_rows,
  nothing_spread key_cmp leg_cmp leg_rows,
  nothing_spread key_cmp thing_cmp hold_rows,
  no_items name_cmp nat_list_cmp_total,
)

no_journeys : JourneysListed → finite.entries (journeys_of finite.empty) ≡ []
no_journeys listed = listed finite.empty ∙ rw (no_entries {K = List ℕ} {X = TripRow} name_cmp)

no_acts : ActsListed → finite.entries (acts_of finite.empty) ≡ []
no_acts listed = listed finite.empty ∙ rw (no_entries {K = List ℕ} {X = TripRow} name_cmp)

lists_of_nothing : JourneysListed → ActsListed → row_lists nothing ≡ first_rows
unfolding row_lists
lists_of_nothing journeys acts = rw (
  finite.entries-insert nat_cmp_total (finite.empty {K = ℕ} {X = ℕ} {R = nat_cmp}) 1 schema_number,
  no_entries {K = ℕ} {X = ℕ} nat_cmp,
  no_items name_cmp nat_list_cmp_total,
  no_items use_cmp use_cmp-total,
  no_entries {K = List ℕ} {X = EdgeEnds} name_cmp,
  no_entries {K = List ℕ} {X = StationSite} name_cmp,
  no_entries {K = VehicleKey} {X = VehicleRow} key_cmp,
  no_journeys journeys,
  no_acts acts,
  no_entries {K = LegKey} {X = List ℕ} leg_cmp,
  no_entries {K = List ℕ} {X = Place} name_cmp,
  no_entries {K = List ℕ} {X = JobRow} name_cmp,
  no_entries {K = Thing} {X = VehicleKey} thing_cmp,
  no_entries {K = List ℕ} {X = Unit {0}} name_cmp,
  no_entries {K = UseKey} {X = Unit {0}} use_cmp,
)

pub first_are_empty : JourneysListed → ActsListed → rows_of empty_world ≡ first_rows
first_are_empty journeys acts = ap row_lists rows_of_nothing ∙ lists_of_nothing journeys acts
