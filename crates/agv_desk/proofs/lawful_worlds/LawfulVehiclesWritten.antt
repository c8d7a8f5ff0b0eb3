-- The layout, the vehicles and their trips stay lawful where a vehicle is written that may be, where a name is used, and where loads and jobs change.
use Rattle.std.proofs.Common.{arith, ◌≡◌, ◌⊎◌, ◌+◌, ◌<◌, ◌≤◌, ◌||◌, ℕ, Bool, true, false, cond, List, Option, None, Some, is_some, is_eq, inl, inr, refl, sym, ap, subst, true≢false, ◌∙◌}
use Rattle.std.proofs.lemmas.Bool.{or_cases}
use Rattle.std.proofs.lemmas.List.{length-map}
use Rattle.std.specs.Cmp.{tied_itself, Equal-is}
use Rattle.std.specs.Cmp.Lexicographic.{nat_list_cmp_total}
use Rattle.std.specs.FinMap as finite
use Rattle.std.specs.FinSet as set
use Rattle.std.specs.Ordering.{eq_by_cmp}
use Rattle.agv_header.specs.Key.{key_cmp}
use Rattle.agv_header.specs.KeyOrder.{key_cmp-total, key_cmp-IsAntisymmetric}
use Rattle.agv_header.specs.Name.{IsName, name_cmp}
use Rattle.agv_header.specs.declared.key.VehicleKey.{VehicleKey}
use Rattle.agv_layout.specs.Layout.{Layout, KeepsRules}
use Rattle.agv_order.specs.Trips.{task_of}
use Rattle.agv_order.specs.declared.trip.Trip.{Trip}
use Rattle.agv_world_core.specs.StockInvariant.{Jobs, Places}
use Rattle.agv_world_core.specs.ConsistentTrips.{IsVehicle, HasOneTripAnOrder, SharesNothing}
use Rattle.agv_world_core.specs.Lawful.{IsKey}
use Rattle.agv_world_core.specs.LawfulParts.{HasLawfulVehicles, IsTripOf, IsVehicleOf}
use Rattle.agv_world_core.specs.VehicleChanges.{with_vehicle}
use Rattle.agv_world_core.specs.TableChanges.{with_use}
use Rattle.agv_world_core.specs.Worlds.{Vehicle, World, empty_layout}
use Rattle.agv_world_core.specs.declared.key.UseKind.TheVariants as used
use Rattle.agv_world_core.specs.declared.row.VehicleRow.{VehicleRow}
use Rattle.agv_desk.specs.InOrder.{IsInOrder, IsOpen}
use Rattle.agv_desk.proofs.outcomes.Known.{same_some}

-- ---- names that were used

or_true : (b : Bool) → (b || true) ≡ true
or_true true = refl
or_true false = refl

size_after : (there : Bool) (n most : ℕ) → n < most → cond there n (n + 1) ≤ most
size_after true n most h = omega (arith, h)
size_after false n most h = omega (arith, h)

module _ (names : set.FinSet name_cmp) (name : List ℕ) where
  -- there is one more at most
  pub few_names : (most : ℕ) → set.len names < most → set.len (set.insert names name) ≤ most
  few_names most few = subst (λ n. n ≤ most) (sym (set.len-insert nat_list_cmp_total names name)) (size_after (set.contains names name) (set.len names) most few)

  pub used_now : set.contains (set.insert names name) name ≡ true
  used_now = set.contains-insert nat_list_cmp_total names name name ∙ ap (λ o. is_eq o || set.contains names name) (tied_itself nat_list_cmp_total name)

  pub still_used : (other : List ℕ) → set.contains names other ≡ true → set.contains (set.insert names name) other ≡ true
  still_used other h = set.contains-insert nat_list_cmp_total names name other ∙ ap (λ b. eq_by_cmp name_cmp other name || b) h ∙ or_true _

  pub used_before : (other : List ℕ) → set.contains (set.insert names name) other ≡ true → (other ≡ name) ⊎ (set.contains names other ≡ true)
  used_before other h = elim (or_cases (eq_by_cmp name_cmp other name) (set.contains names other) (sym (set.contains-insert nat_list_cmp_total names name other) ∙ h)) [
    | inl tied ↦ inl (set.slice_cmp-IsAntisymmetric set.nat_cmp-IsAntisymmetric other name ((Equal-is (name_cmp other name)).0 tied))
    | inr old ↦ inr old
  ]

-- ---- a vehicle that is written

-- a vehicle is the one that was written, or one of before
pub written_or_old : (world : World) (key : VehicleKey) (new : Vehicle) (one : VehicleKey) (x : Vehicle) → IsVehicle (with_vehicle world key new) one x
    → ((one ≡ key) × (x ≡ new)) ⊎ IsVehicle world one x
written_or_old world key new one x is = by_test (eq_by_cmp key_cmp one key) refl (sym (finite.get-insert key_cmp-total world.vehicles key new one) ∙ is)
  where
    by_test : (same : Bool) → eq_by_cmp key_cmp one key ≡ same → cond same (Some new) (finite.get world.vehicles one) ≡ Some x → ((one ≡ key) × (x ≡ new)) ⊎ IsVehicle world one x
    by_test true tied e = inl (key_cmp-IsAntisymmetric one key ((Equal-is (key_cmp one key)).0 tied), sym (same_some e))
    by_test false differ e = inr e

-- how many vehicles there are then
vehicles_after : (world : World) (key : VehicleKey) (new : Vehicle) (there : Option Vehicle) → finite.get world.vehicles key ≡ there
    → finite.len (finite.insert world.vehicles key new) ≡ cond (is_some there) (finite.len world.vehicles) (finite.len world.vehicles + 1)
vehicles_after world key new there is =
    finite.len-insert key_cmp-total world.vehicles key new ∙ ap (λ (o : Option Vehicle). cond (is_some o) (finite.len world.vehicles) (finite.len world.vehicles + 1)) is

pub one_more_vehicle : (world : World) (key : VehicleKey) (new : Vehicle) → finite.get world.vehicles key ≡ None → finite.len world.vehicles < 100
    → finite.len (finite.insert world.vehicles key new) ≤ 100
one_more_vehicle world key new none few = subst (λ n. n ≤ 100) (sym (vehicles_after world key new None none)) (omega (arith, few))

pub as_many_vehicles : (world : World) (key : VehicleKey) (old new : Vehicle) → IsVehicle world key old → finite.len world.vehicles ≤ 100
    → finite.len (finite.insert world.vehicles key new) ≤ 100
as_many_vehicles world key old new is few = subst (λ n. n ≤ 100) (sym (vehicles_after world key new (Some old) is)) few

-- what is asked of a vehicle that is written, and of its trip
pub record MayBeWritten (seats : ℕ) (world : World) (key : VehicleKey) (new : Vehicle) : Type 0 where
  pub few : finite.len (finite.insert world.vehicles key new) ≤ 100
  pub named : IsKey key
  pub vehicle : IsVehicleOf seats world.layout new.row
  pub trip : (trip : Trip) → new.trip ≡ Some trip → IsTripOf world.layout key new.row trip × (set.contains world.orders trip.order ≡ true)
  pub one_trip : HasOneTripAnOrder (with_vehicle world key new)
  pub apart : SharesNothing (with_vehicle world key new)

module _ (seats : ℕ) (world : World) (lawful : HasLawfulVehicles seats world) where
  pub writes : (key : VehicleKey) (new : Vehicle) → MayBeWritten seats world key new → HasLawfulVehicles seats (with_vehicle world key new)
  writes key new may = record {
    laid = lawful.laid;
    few_vehicles = may.few;
    few_orders = lawful.few_orders;
    few_references = lawful.few_references;
    vehicles_named = λ one x is. elim (written_or_old world key new one x is) [
      | inl same ↦ subst IsKey (sym same.0) may.named
      | inr old ↦ lawful.vehicles_named one x old
    ];
    orders_named = lawful.orders_named;
    references_named = lawful.references_named;
    vehicles = λ one x is. elim (written_or_old world key new one x is) [
      | inl same ↦ subst (λ (v : Vehicle). IsVehicleOf seats world.layout v.row) (sym same.1) may.vehicle
      | inr old ↦ lawful.vehicles one x old
    ];
    trips = λ one x trip is has. elim (written_or_old world key new one x is) [
      | inl same ↦ subst (λ k. IsTripOf world.layout k x.row trip) (sym same.0) (subst (λ (v : Vehicle). IsTripOf world.layout key v.row trip) (sym same.1) (may.trip trip (sym (ap (λ (v : Vehicle). v.trip) same.1) ∙ has)).0)
      | inr old ↦ lawful.trips one x trip old has
    ];
    used = λ one trip has. elim (written_or_old world key new one has.0 has.1) [
      | inl same ↦ (may.trip trip (sym (ap (λ (v : Vehicle). v.trip) same.1) ∙ has.2)).1
      | inr old ↦ lawful.used one trip (has.0, old, has.2)
    ];
    one_trip = may.one_trip;
    apart = may.apart;
  }

  -- ---- names that are used

  pub uses_order : (name : List ℕ) → set.len world.orders < 1000000 → IsName name → HasLawfulVehicles seats (with_use world used.Order name)
  uses_order name few named = record {
    laid = lawful.laid;
    few_vehicles = lawful.few_vehicles;
    few_orders = few_names world.orders name 1000000 few;
    few_references = lawful.few_references;
    vehicles_named = lawful.vehicles_named;
    orders_named = λ other is. elim (used_before world.orders name other is) [
      | inl same ↦ subst IsName (sym same) named
      | inr old ↦ lawful.orders_named other old
    ];
    references_named = lawful.references_named;
    vehicles = lawful.vehicles;
    trips = lawful.trips;
    used = λ key trip has. still_used world.orders name trip.order (lawful.used key trip has);
    one_trip = lawful.one_trip;
    apart = lawful.apart;
  }

  -- a reference, where loads and jobs change too
  pub uses_reference : (places : Places) (jobs : Jobs) (name : List ℕ) → set.len world.references < 1000000 → IsName name
      → HasLawfulVehicles seats (with_use (record world { places = places; jobs = jobs }) used.Reference name)
  uses_reference places jobs name few named = record {
    laid = lawful.laid;
    few_vehicles = lawful.few_vehicles;
    few_orders = lawful.few_orders;
    few_references = few_names world.references name 1000000 few;
    vehicles_named = lawful.vehicles_named;
    orders_named = lawful.orders_named;
    references_named = λ other is. elim (used_before world.references name other is) [
      | inl same ↦ subst IsName (sym same) named
      | inr old ↦ lawful.references_named other old
    ];
    vehicles = lawful.vehicles;
    trips = lawful.trips;
    used = lawful.used;
    one_trip = lawful.one_trip;
    apart = lawful.apart;
  }

  -- ---- loads and jobs

  pub moves_loads : (places : Places) (jobs : Jobs) → HasLawfulVehicles seats (record world { places = places; jobs = jobs })
  moves_loads places jobs = record {
    laid = lawful.laid;
    few_vehicles = lawful.few_vehicles;
    few_orders = lawful.few_orders;
    few_references = lawful.few_references;
    vehicles_named = lawful.vehicles_named;
    orders_named = lawful.orders_named;
    references_named = lawful.references_named;
    vehicles = lawful.vehicles;
    trips = lawful.trips;
    used = lawful.used;
    one_trip = lawful.one_trip;
    apart = lawful.apart;
  }

  -- ---- the layout

  -- where there is no layout, there is no vehicle
  nobody : world.layout ≡ empty_layout → (key : VehicleKey) (vehicle : Vehicle) → IsVehicle world key vehicle → ⊥
  nobody empty key vehicle is =
      true≢false (sym (lawful.vehicles key vehicle is).node ∙ ap (λ (layout : Layout). set.contains layout.nodes vehicle.row.node) empty ∙ set.contains-empty name_cmp vehicle.row.node)

  -- where there is a vehicle, the layout keeps the rules
  pub keeps_rules : (key : VehicleKey) (vehicle : Vehicle) → IsVehicle world key vehicle → KeepsRules world.layout
  keeps_rules key vehicle is = elim lawful.laid [
    | inl empty ↦ absurd (nobody empty key vehicle is)
    | inr keeps ↦ keeps
  ]

  -- a layout that keeps the rules is set where there is none
  pub lays : (layout : Layout) → world.layout ≡ empty_layout → KeepsRules layout → HasLawfulVehicles seats (record world { layout = layout })
  lays layout empty keeps = record {
    laid = inr keeps;
    few_vehicles = lawful.few_vehicles;
    few_orders = lawful.few_orders;
    few_references = lawful.few_references;
    vehicles_named = lawful.vehicles_named;
    orders_named = lawful.orders_named;
    references_named = lawful.references_named;
    vehicles = λ key vehicle is. absurd (nobody empty key vehicle is);
    trips = λ key vehicle trip is has. absurd (nobody empty key vehicle is);
    used = lawful.used;
    one_trip = lawful.one_trip;
    apart = lawful.apart;
  }

  -- ---- what the rows of a call rest on

  is_open : (key : VehicleKey) (row : VehicleRow) (trip : Trip) → IsTripOf world.layout key row trip → IsOpen trip
  is_open key row trip of = record {
    under_way = of.well_formed.under_way;
    short = of.well_formed.planned.short;
    few = subst (λ n. n ≤ 8) (length-map trip.acts task_of) of.well_formed.planned.few;
  }

  pub is_in_order : IsInOrder world
  is_in_order = record {
    laid = lawful.laid;
    one_trip = lawful.one_trip;
    used = lawful.used;
    open_trips = λ key trip has. is_open key has.0.row trip (lawful.trips key has.0 trip has.1 has.2);
    apart = lawful.apart;
  }
