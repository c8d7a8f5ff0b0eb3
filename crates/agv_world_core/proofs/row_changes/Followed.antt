-- The rows that change where a vehicle is written are those of the world with that vehicle.
use Rattle.std.proofs.Common.{◌≡◌, ℕ, cond, List, ◌++◌, map, Option, Some, None, sym, ap, subst, ◌∙◌}
use Rattle.std.specs.FinMap.{get, insert, find}
use Rattle.std.specs.List.{Contains}
use Rattle.agv_header.specs.Key.{key_cmp, thing_cmp}
use Rattle.agv_header.specs.KeyOrder.{key_cmp-total, key_cmp-IsAntisymmetric}
use Rattle.agv_header.specs.Name.{name_cmp}
use Rattle.agv_header.specs.ThingOrder.{thing_cmp-total, thing_cmp-IsAntisymmetric}
use Rattle.agv_header.specs.declared.key.Thing.{Thing}
use Rattle.agv_header.specs.declared.key.VehicleKey.{VehicleKey}
use Rattle.agv_track_holds.specs.Footprints.{footprint_of}
use Rattle.agv_world_core.specs.Changes.{changed}
use Rattle.agv_world_core.specs.ConsistentTrips.{HasOneTripAnOrder, SharesNothing}
use Rattle.agv_world_core.specs.KeyOrders.{leg_cmp-total, leg_cmp-IsAntisymmetric}
use Rattle.agv_world_core.specs.Keys.{leg_cmp}
use Rattle.agv_world_core.specs.Maps.{Maps, maps_of, vehicle_rows, trip_rows, rows_of_trip, leg_rows, legs_of_trip, hold_rows, standing_of}
use Rattle.agv_header.specs.Spread.{spread}
use Rattle.agv_world_core.specs.VehicleChanges.{KeepsOrderAndEdges, StandsAsBefore, row_before, trip_before, held_before, own_changes, trip_changes, hold_changes, vehicle_changes, with_vehicle}
use Rattle.agv_world_core.specs.Worlds.{Vehicle, World}
use Rattle.agv_world_core.specs.declared.key.LegKey.{LegKey}
use Rattle.agv_world_core.specs.declared.row.TripRow.{TripRow}
use Rattle.agv_world_core.specs.declared.row.VehicleRow.{VehicleRow}
use Rattle.agv_world_core.proofs.world_rows.Apart.{vehicles_apart, trips_apart, legs_apart}
use Rattle.agv_world_core.proofs.row_changes.ChangeRuns.{changed-append}
use Rattle.agv_world_core.proofs.world_rows.Holders.{holds_apart, find-run}
use Rattle.agv_world_core.proofs.lists.Orders.{names_total, names_apart}
use Rattle.agv_world_core.proofs.row_changes.Respreads.{given, replaced, respread, respread_same, stood}
use Rattle.agv_world_core.proofs.row_changes.Stays.{apart_by_less, one_trip_of}
use Rattle.agv_world_core.proofs.row_changes.VehicleTables.{own_table, own_at, given_own, changed-own, trip_table, trips_at, given_trip, leg_table, legs_at, given_legs, changed-trip, hold_table, holds_at, given_holds, changed-hold}

-- ---- the vehicle's own row
module _ (world : World) (key : VehicleKey) (vehicle : Vehicle) where
  abbrev there : Option Vehicle
  there = get world.vehicles key

  pub vehicles_now : own_table key (row_before there) vehicle.row (spread key_cmp vehicle_rows world.vehicles) ≡ spread key_cmp vehicle_rows (insert world.vehicles key vehicle)
  vehicles_now = respread key_cmp-total key_cmp-IsAntisymmetric key_cmp key_cmp-total key_cmp-IsAntisymmetric vehicle_rows world.vehicles key vehicle (vehicles_apart world) (vehicles_apart (with_vehicle world key vehicle))
      (own_table key (row_before there) vehicle.row (spread key_cmp vehicle_rows world.vehicles))
      (λ q. own_at key (row_before there) vehicle.row (spread key_cmp vehicle_rows world.vehicles) q (λ y e. stood_own q y (sym (given_own key there q) ∙ e))
      ∙ ap (λ v. replaced (find key_cmp q (vehicle_rows key vehicle)) v (get (spread key_cmp vehicle_rows world.vehicles) q)) (given_own key there q))
    where
      stood_own : (q : VehicleKey) (y : VehicleRow) → given key_cmp vehicle_rows key there q ≡ Some y → get (spread key_cmp vehicle_rows world.vehicles) q ≡ Some y
      stood_own = stood key_cmp-total key_cmp-IsAntisymmetric key_cmp key_cmp-total key_cmp-IsAntisymmetric vehicle_rows world.vehicles key vehicle (vehicles_apart world) (vehicles_apart (with_vehicle world key vehicle))

-- ---- all tables
module _ (world : World) (key : VehicleKey) (vehicle : Vehicle) (once : HasOneTripAnOrder world) (shares : SharesNothing world)
    (once_now : HasOneTripAnOrder (with_vehicle world key vehicle)) (shares_now : SharesNothing (with_vehicle world key vehicle)) where
  abbrev old : Option Vehicle
  old = get world.vehicles key

  trips_now : KeepsOrderAndEdges (trip_before old) vehicle.trip → trip_table key (trip_before old) vehicle.trip (spread name_cmp trip_rows world.vehicles) ≡ spread name_cmp trip_rows (insert world.vehicles key vehicle)
  trips_now goes = respread key_cmp-total key_cmp-IsAntisymmetric name_cmp names_total names_apart trip_rows world.vehicles key vehicle (trips_apart world once) (trips_apart (with_vehicle world key vehicle) once_now)
      (trip_table key (trip_before old) vehicle.trip (spread name_cmp trip_rows world.vehicles))
      (λ q. trips_at key (trip_before old) vehicle.trip goes (spread name_cmp trip_rows world.vehicles) q (λ y e. stood_trip q y (sym (given_trip key old q) ∙ e))
      ∙ ap (λ v. replaced (find name_cmp q (trip_rows key vehicle)) v (get (spread name_cmp trip_rows world.vehicles) q)) (given_trip key old q))
    where
      stood_trip : (q : List ℕ) (y : TripRow) → given name_cmp trip_rows key old q ≡ Some y → get (spread name_cmp trip_rows world.vehicles) q ≡ Some y
      stood_trip = stood key_cmp-total key_cmp-IsAntisymmetric name_cmp names_total names_apart trip_rows world.vehicles key vehicle (trips_apart world once) (trips_apart (with_vehicle world key vehicle) once_now)

  legs_now : KeepsOrderAndEdges (trip_before old) vehicle.trip → leg_table (trip_before old) vehicle.trip (spread leg_cmp leg_rows world.vehicles) ≡ spread leg_cmp leg_rows (insert world.vehicles key vehicle)
  legs_now goes = respread key_cmp-total key_cmp-IsAntisymmetric leg_cmp leg_cmp-total leg_cmp-IsAntisymmetric leg_rows world.vehicles key vehicle (legs_apart world once) (legs_apart (with_vehicle world key vehicle) once_now)
      (leg_table (trip_before old) vehicle.trip (spread leg_cmp leg_rows world.vehicles))
      (λ q. legs_at (trip_before old) vehicle.trip goes (spread leg_cmp leg_rows world.vehicles) q (λ y e. stood_leg q y (sym (given_legs key old q) ∙ e))
      ∙ ap (λ v. replaced (find leg_cmp q (leg_rows key vehicle)) v (get (spread leg_cmp leg_rows world.vehicles) q)) (given_legs key old q))
    where
      stood_leg : (q : LegKey) (y : List ℕ) → given leg_cmp leg_rows key old q ≡ Some y → get (spread leg_cmp leg_rows world.vehicles) q ≡ Some y
      stood_leg = stood key_cmp-total key_cmp-IsAntisymmetric leg_cmp leg_cmp-total leg_cmp-IsAntisymmetric leg_rows world.vehicles key vehicle (legs_apart world once) (legs_apart (with_vehicle world key vehicle) once_now)

  holds_now : hold_table key (held_before old) (footprint_of (standing_of vehicle)) (spread thing_cmp hold_rows world.vehicles) ≡ spread thing_cmp hold_rows (insert world.vehicles key vehicle)
  holds_now = respread key_cmp-total key_cmp-IsAntisymmetric thing_cmp thing_cmp-total thing_cmp-IsAntisymmetric hold_rows world.vehicles key vehicle (holds_apart world shares) (holds_apart (with_vehicle world key vehicle) shares_now)
      (hold_table key (held_before old) (footprint_of (standing_of vehicle)) (spread thing_cmp hold_rows world.vehicles))
      (λ q. holds_at key (held_before old) (footprint_of (standing_of vehicle)) (spread thing_cmp hold_rows world.vehicles) q
      (λ own. stood_hold q key (given_holds key old q ∙ ap (λ b. cond b (Some key) None) own))
      ∙ (λ i. replaced (sym (find-run key q (footprint_of (standing_of vehicle))) i) (sym (given_holds key old q) i) (get (spread thing_cmp hold_rows world.vehicles) q)))
    where
      stood_hold : (q : Thing) (y : VehicleKey) → given thing_cmp hold_rows key old q ≡ Some y → get (spread thing_cmp hold_rows world.vehicles) q ≡ Some y
      stood_hold = stood key_cmp-total key_cmp-IsAntisymmetric thing_cmp thing_cmp-total thing_cmp-IsAntisymmetric hold_rows world.vehicles key vehicle (holds_apart world shares) (holds_apart (with_vehicle world key vehicle) shares_now)

  pub followed : KeepsOrderAndEdges (trip_before old) vehicle.trip → changed (vehicle_changes key old vehicle) (maps_of world) ≡ maps_of (with_vehicle world key vehicle)
  unfolding changed
  followed goes =
      let own = own_changes key (row_before old) vehicle.row in
      let first : Maps = record (maps_of world) { vehicles = own_table key (row_before old) vehicle.row (maps_of world).vehicles } in
      let held : List Thing = footprint_of (standing_of vehicle) in
      changed-append own (trip_changes key (trip_before old) vehicle.trip ++ hold_changes key (held_before old) held) (maps_of world)
      ∙ ap (changed (trip_changes key (trip_before old) vehicle.trip ++ hold_changes key (held_before old) held)) (changed-own key (row_before old) vehicle.row (maps_of world))
      ∙ changed-append (trip_changes key (trip_before old) vehicle.trip) (hold_changes key (held_before old) held) first
      ∙ ap (changed (hold_changes key (held_before old) held)) (changed-trip key (trip_before old) vehicle.trip first)
      ∙ changed-hold key (held_before old) held (record first { trips = trip_table key (trip_before old) vehicle.trip first.trips; legs = leg_table (trip_before old) vehicle.trip first.legs })
      ∙ (λ i. record (maps_of world) { vehicles = vehicles_now world key vehicle i; trips = trips_now goes i; legs = legs_now goes i; holds = holds_now i })

-- ---- a vehicle that stands as before
module _ (world : World) (key : VehicleKey) (old new : Vehicle) (at : get world.vehicles key ≡ Some old) (stands : StandsAsBefore old new) where
  same_standing : standing_of new ≡ standing_of old
  same_standing = λ i. record { node = stands.node i; rest = stands.rest i; trip = stands.trip i }

  pub once_after : HasOneTripAnOrder world → HasOneTripAnOrder (with_vehicle world key new)
  once_after once = one_trip_of world key new once (λ trip e other more held same. once other key more trip held (old, at, sym stands.trip ∙ e) (sym same))

  pub shares_after : SharesNothing world → SharesNothing (with_vehicle world key new)
  shares_after shares = apart_by_less world key old new at (λ thing needs. subst (λ s. Contains (footprint_of s) thing) same_standing needs) shares

module _ (world : World) (key : VehicleKey) (old new : Vehicle) (at : get world.vehicles key ≡ Some old) (stands : StandsAsBefore old new) (once : HasOneTripAnOrder world) (shares : SharesNothing world) where
  abbrev once_now : HasOneTripAnOrder (with_vehicle world key new)
  once_now = once_after world key old new at stands once

  abbrev shares_now : SharesNothing (with_vehicle world key new)
  shares_now = shares_after world key old new at stands shares

  trips_same : spread name_cmp trip_rows world.vehicles ≡ spread name_cmp trip_rows (insert world.vehicles key new)
  trips_same = respread_same key_cmp-total key_cmp-IsAntisymmetric name_cmp names_total names_apart trip_rows world.vehicles key new (trips_apart world once) (trips_apart (with_vehicle world key new) once_now) old at (ap (rows_of_trip key) stands.trip)

  legs_same : spread leg_cmp leg_rows world.vehicles ≡ spread leg_cmp leg_rows (insert world.vehicles key new)
  legs_same = respread_same key_cmp-total key_cmp-IsAntisymmetric leg_cmp leg_cmp-total leg_cmp-IsAntisymmetric leg_rows world.vehicles key new (legs_apart world once) (legs_apart (with_vehicle world key new) once_now) old at (ap legs_of_trip stands.trip)

  holds_same : spread thing_cmp hold_rows world.vehicles ≡ spread thing_cmp hold_rows (insert world.vehicles key new)
  holds_same = respread_same key_cmp-total key_cmp-IsAntisymmetric thing_cmp thing_cmp-total thing_cmp-IsAntisymmetric hold_rows world.vehicles key new (holds_apart world shares) (holds_apart (with_vehicle world key new) shares_now) old at
      (ap (λ s. map (λ (thing : Thing). (thing, key)) (footprint_of s)) (same_standing world key old new at stands))

  pub noted : changed (own_changes key (Some old.row) new.row) (maps_of world) ≡ maps_of (with_vehicle world key new)
  noted =
      ap (λ o. changed (own_changes key (row_before o) new.row) (maps_of world)) (sym at)
      ∙ changed-own key (row_before (get world.vehicles key)) new.row (maps_of world)
      ∙ (λ i. record (maps_of world) { vehicles = vehicles_now world key new i; trips = trips_same i; legs = legs_same i; holds = holds_same i })
