-- The calls that touch no trip keep the layout, the vehicles and their trips lawful.
use Rattle.std.proofs.Common.{◌≡◌, ◌<◌, ◌≤◌, ℕ, nat_lt, List, Option, Some, true, refl, ltb-true}
use Rattle.std.proofs.lemmas.Bool.{and_parts}
use Rattle.std.specs.FinMap as finite
use Rattle.std.specs.FinSet as set
use Rattle.agv_header.specs.Limits.{most_records}
use Rattle.agv_header.specs.Name.{IsName}
use Rattle.agv_header.specs.declared.key.VehicleKey.{VehicleKey}
use Rattle.agv_layout.specs.Rows.{AreNamed}
use Rattle.agv_layout.specs.declared.row.LayoutRow.{LayoutRow}
use Rattle.agv_message_core.specs.declared.instant.InstantKind.{InstantKind}
use Rattle.agv_message_core.specs.declared.state.StateMessage.{StateMessage}
use Rattle.agv_track_holds.specs.Footprints.{footprint_of}
use Rattle.agv_world_core.specs.ConsistentTrips.{IsVehicle}
use Rattle.agv_world_core.specs.Lawful.{IsKey}
use Rattle.agv_world_core.specs.LawfulParts.{HasLawfulVehicles, IsVehicleOf}
use Rattle.agv_world_core.specs.Questions.{row_of, trip_of, count_of}
use Rattle.agv_world_core.specs.VehicleChanges.{StandsAsBefore, with_vehicle}
use Rattle.agv_world_core.specs.Worlds.{World}
use Rattle.agv_world_core.specs.declared.floor.Counted.TheVariants as counted
use Rattle.agv_world_core.specs.declared.row.VehicleRow.{VehicleRow}
use Rattle.agv_desk.specs.InstantSteps.{instruct, cancel, pause, resume}
use Rattle.agv_desk.specs.JobSteps.{add_job, stop_job}
use Rattle.agv_desk.specs.LayoutSteps.{set_layout}
use Rattle.agv_desk.specs.LoadSteps.{register_load, correct_load, leave_load}
use Rattle.agv_desk.specs.Outcomes.{Effect}
use Rattle.agv_desk.specs.ReadSteps.{get_order, get_instant, get_load, get_job, get_vehicle}
use Rattle.agv_desk.specs.StateSteps.{idle_state}
use Rattle.agv_desk.specs.StocktakeSteps.{Row, take_stock}
use Rattle.agv_desk.specs.VehicleSteps.{new_vehicle, placed, register_vehicle, place_vehicle, resync}
use Rattle.agv_desk.specs.WellTyped.{IsMoment}
use Rattle.agv_desk.proofs.row_changes.Given.{Given}
use Rattle.agv_desk.proofs.outcomes.Keeping.{KeepsVehicles}
use Rattle.agv_desk.proofs.outcomes.Known.{none_some, vehicle_with, known, unknown}
use Rattle.agv_desk.proofs.outcomes.Ladders.{IfMade, made_refuse_unless, made_refuse_if_none, made_checked, made_unheld, made_judged}
use Rattle.agv_desk.proofs.lawful_worlds.LawfulVehiclesGiven.{GivenMore}
use Rattle.agv_desk.proofs.lawful_worlds.LawfulVehiclesRows.{forgotten_row, accepted_row, instructed_row, new_row, placed_row, same_trip}
use Rattle.agv_desk.proofs.lawful_worlds.LawfulVehiclesWritten.{as_many_vehicles, is_in_order, lays, moves_loads, one_more_vehicle, uses_reference, writes}
use Rattle.agv_desk.proofs.row_changes.LayoutRows.{is_empty, made_given}
use Rattle.agv_desk.proofs.row_changes.Steps.{missing}

-- ---- what is counted

few_vehicles : (world : World) → nat_lt (count_of world counted.Vehicles) 100 ≡ true → finite.len world.vehicles < 100
unfolding count_of
few_vehicles world few = ltb-true (finite.len world.vehicles) 100 few

few_references : (world : World) → nat_lt (count_of world counted.References) most_records ≡ true → set.len world.references < 1000000
unfolding count_of
few_references world few = ltb-true (set.len world.references) 1000000 few

module _ (given : Given) (more : GivenMore) (seats : ℕ) (world : World) (lawful : HasLawfulVehicles seats world) where
  abbrev P : Effect → Type 0
  P = KeepsVehicles seats world

  -- ---- the layout
  pub sets_layout : (rows : List LayoutRow) → AreNamed rows → IfMade P (set_layout world rows)
  sets_layout rows named =
      made_refuse_unless P _ _ _ (λ unset. made_given P _ _ (λ layout read.
      record { vehicles = lays seats world lawful layout (is_empty given world (is_in_order seats world lawful) (missing _ unset) lawful.laid) (more.rules rows layout named read) }))

  -- ---- loads and jobs
  pub registers_load : (load : List ℕ) (station : Option (List ℕ)) → IfMade P (register_load world load station)
  registers_load load station = made_checked P _ _ (made_refuse_unless P _ _ _ (λ few. record { vehicles = moves_loads seats world lawful _ _ }))

  pub corrects_load : (load reference : List ℕ) (station : Option (List ℕ)) → IsName reference → IfMade P (correct_load world load reference station)
  corrects_load load reference station named =
      made_refuse_unless P _ _ _ (λ new. made_checked P _ _ (made_refuse_unless P _ _ _ (λ few.
      record { vehicles = uses_reference seats world lawful _ _ reference (few_references world few) named })))

  pub lets_load_leave : (load reference : List ℕ) → IsName reference → IfMade P (leave_load world load reference)
  lets_load_leave load reference named =
      made_refuse_unless P _ _ _ (λ new. made_checked P _ _ (made_refuse_unless P _ _ _ (λ few.
      record { vehicles = uses_reference seats world lawful _ _ reference (few_references world few) named })))

  pub adds_job : (job load to : List ℕ) → IfMade P (add_job world job load to)
  adds_job job load to =
      made_checked P _ _ (made_refuse_if_none P _ _ _ (λ origin is. made_refuse_unless P _ _ _ (λ few. record { vehicles = moves_loads seats world lawful _ _ })))

  pub stops_job : (job : List ℕ) → IfMade P (stop_job world job)
  stops_job job = made_refuse_if_none P _ _ _ (λ row is. made_refuse_unless P _ _ _ (λ waits. record { vehicles = moves_loads seats world lawful _ _ }))

  pub takes_stock : (reference : List ℕ) (rows : List Row) → IsName reference → IfMade P (take_stock world reference rows)
  takes_stock reference rows named =
      made_refuse_unless P _ _ _ (λ a. made_refuse_unless P _ _ _ (λ b. made_refuse_unless P _ _ _ (λ c. made_refuse_unless P _ _ _ (λ d.
      made_refuse_unless P _ _ _ (λ e. made_refuse_unless P _ _ _ (λ f. made_refuse_unless P _ _ _ (λ few.
      record { vehicles = uses_reference seats world lawful _ _ reference (few_references world few) named })))))))

  -- ---- what is only told
  pub tells_order : (key : VehicleKey) → IfMade P (get_order world key)
  tells_order key = made_refuse_if_none P _ _ _ (λ row is. record { vehicles = lawful })

  pub tells_instant : (key : VehicleKey) → IfMade P (get_instant world key)
  tells_instant key = made_refuse_if_none P _ _ _ (λ row is. record { vehicles = lawful })

  pub tells_load : (load : List ℕ) → IfMade P (get_load world load)
  tells_load load = made_refuse_if_none P _ _ _ (λ place is. record { vehicles = lawful })

  pub tells_job : (job : List ℕ) → IfMade P (get_job world job)
  tells_job job = made_refuse_if_none P _ _ _ (λ row is. record { vehicles = lawful })

  pub tells_vehicle : (key : VehicleKey) → IfMade P (get_vehicle world key)
  tells_vehicle key = made_refuse_if_none P _ _ _ (λ row is. record { vehicles = lawful })

  -- ---- the row of a vehicle that stands as before
  notes : (key : VehicleKey) (row new : VehicleRow) → row_of world key ≡ Some row → new.capacity ≡ row.capacity → new.orders ≡ row.orders → new.node ≡ row.node → new.rest ≡ row.rest
      → (IsVehicleOf seats world.layout row → IsVehicleOf seats world.layout new) → HasLawfulVehicles seats (with_vehicle world key (vehicle_with new (trip_of world key)))
  notes key row new there capacity orders node rest vehicle =
      let old = vehicle_with row (trip_of world key) in
      let next = vehicle_with new (trip_of world key) in
      let is : IsVehicle world key old = known world key row there in
      let stands : StandsAsBefore old next = record { node = node; rest = rest; trip = refl } in
      writes seats world lawful key next (record {
        few = as_many_vehicles world key old next is lawful.few_vehicles;
        named = lawful.vehicles_named key old is;
        vehicle = vehicle (lawful.vehicles key old is);
        trip = λ trip e. (same_trip world.layout key row new trip capacity orders node rest (lawful.trips key old trip is e), lawful.used key trip (old, is, e));
        one_trip = more.one_trip world key old next is stands lawful.one_trip;
        apart = more.apart world key old next is stands lawful.apart;
      })

  pub instructs : (at : ℕ) (key : VehicleKey) (row : VehicleRow) (kind : InstantKind) → IsMoment at → row_of world key ≡ Some row → IfMade P (instruct at key row kind)
  instructs at key row kind moment there =
      made_refuse_unless P _ _ _ (λ free. made_refuse_if_none P _ _ _ (λ number next.
      record { vehicles = notes key row _ there refl refl refl refl (λ vehicle. instructed_row seats world.layout row vehicle number at kind next moment) }))

  pub cancels : (at : ℕ) (key : VehicleKey) → IsMoment at → IfMade P (cancel world at key)
  cancels at key moment = made_refuse_if_none P _ _ _ (λ row there. made_refuse_unless P _ _ _ (λ has. instructs at key row _ moment there))

  pub pauses : (at : ℕ) (key : VehicleKey) → IsMoment at → IfMade P (pause world at key)
  pauses at key moment = made_refuse_if_none P _ _ _ (λ row there. instructs at key row _ moment there)

  pub resumes : (at : ℕ) (key : VehicleKey) → IsMoment at → IfMade P (resume world at key)
  resumes at key moment = made_refuse_if_none P _ _ _ (λ row there. instructs at key row _ moment there)

  pub begins_anew : (key : VehicleKey) → IfMade P (resync world key)
  begins_anew key = made_refuse_if_none P _ _ _ (λ row there. record { vehicles = notes key row _ there refl refl refl refl (λ vehicle. forgotten_row seats world.layout row vehicle) })

  pub takes_idle : (key : VehicleKey) (row : VehicleRow) (state : StateMessage) → state.header_id ≤ 4294967295 → row_of world key ≡ Some row → IfMade P (idle_state key row state)
  takes_idle key row state numbered there =
      made_judged P _ _ (λ over is. record { vehicles = notes key row _ there refl refl refl refl (λ vehicle. accepted_row seats world.layout row vehicle state over numbered) })

  -- ---- a vehicle that stands without a trip
  pub registers_vehicle : (key : VehicleKey) (node : List ℕ) (capacity : ℕ) → IsKey key → IfMade P (register_vehicle seats world key node capacity)
  unfolding footprint_of
  registers_vehicle key node capacity named =
      made_refuse_unless P _ _ _ (λ free. made_refuse_unless P _ _ _ (λ known_node. made_unheld P _ _ (λ opened. made_refuse_unless P _ _ _ (λ limits.
      let new = new_vehicle capacity node in
      let each = and_parts _ _ limits in
      record {
        vehicles = writes seats world lawful key new (record {
          few = one_more_vehicle world key new (unknown world key (missing _ free)) (few_vehicles world each.0);
          named = named;
          vehicle = new_row seats world.layout capacity node known_node each.1;
          trip = λ trip e. none_some e;
          one_trip = given.without world key new lawful.one_trip refl;
          apart = given.by_claim world key new lawful.apart opened;
        });
      }))))

  pub places_vehicle : (key : VehicleKey) (reference node : List ℕ) → IsName reference → IfMade P (place_vehicle world key reference node)
  unfolding footprint_of
  places_vehicle key reference node named =
      made_refuse_unless P _ _ _ (λ new_reference. made_refuse_if_none P _ _ _ (λ row there.
      made_refuse_unless P _ _ _ (λ known_node. made_unheld P _ _ (λ opened. made_refuse_unless P _ _ _ (λ few.
      let old = vehicle_with row (trip_of world key) in
      let new = placed row node in
      let is : IsVehicle world key old = known world key row there in
      let written = writes seats world lawful key new (record {
        few = as_many_vehicles world key old new is lawful.few_vehicles;
        named = lawful.vehicles_named key old is;
        vehicle = placed_row seats world.layout row (lawful.vehicles key old is) node known_node;
        trip = λ trip e. none_some e;
        one_trip = given.without world key new lawful.one_trip refl;
        apart = given.by_claim world key new lawful.apart opened;
      }) in
      record { vehicles = uses_reference seats (with_vehicle world key new) written _ _ reference (few_references world few) named })))))
