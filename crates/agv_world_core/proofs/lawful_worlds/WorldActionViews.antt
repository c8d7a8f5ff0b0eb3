-- The actions of a world are those of the acts of its open trips, and what counts and questions say is one.
use Rattle.std.proofs.Common.{◌≡◌, ℕ, List, length, Option, None, Some, refl, sym, ap, subst, ◌∙◌}
use Rattle.std.specs.FinMap as finite
use Rattle.std.specs.List.{slice_get}
use Rattle.std.proofs.lemmas.List.{length-map}
use Rattle.std.proofs.lemmas.List.Sums.{length-filter}
use Rattle.std.specs.List.{filter}
use Rattle.agv_header.specs.declared.key.VehicleKey.{VehicleKey}
use Rattle.agv_order.specs.declared.act.Act.{Act}
use Rattle.agv_order.specs.declared.trip.Trip.{Trip}
use Rattle.agv_stock.specs.Rooms.{is_at}
use Rattle.agv_stock.specs.declared.place.Place.{Place}
use Rattle.agv_world_core.specs.StockInvariant.{ActionView, action_view, action_views, action_views_by, action_views_for, action_views_of, stored}
use Rattle.agv_world_core.specs.ConsistentTrips.{HasTrip, IsVehicle}
use Rattle.agv_world_core.specs.Lawful.{HasAct}
use Rattle.agv_world_core.specs.Questions.{loads_at, loads_on, reserved, loads_on_vehicle, reserved_by}
use Rattle.agv_world_core.specs.Worlds.{Vehicle, World}
use Rattle.agv_world_core.proofs.lawful_worlds.ActPlaces.{among, from_mapped, mapped_at, place_of}
use Rattle.agv_world_core.proofs.lists.Entries.{no_more}

module _ (world : World) where
  -- ---- counts

  pub stored_is : (station : List ℕ) → length (loads_at world station) ≡ stored world.places station
  unfolding loads_at
  stored_is station =
      length-map (filter (λ (load : List ℕ × Place). is_at station load.1) (finite.entries world.places)) _
      ∙ length-filter (λ (load : List ℕ × Place). is_at station load.1) (finite.entries world.places)

  pub reserved_is : (station : List ℕ) → reserved world station ≡ reserved_by world.jobs station
  unfolding reserved
  reserved_is station = refl

  pub on_vehicle_is : (key : VehicleKey) → loads_on world key ≡ loads_on_vehicle world.places key
  unfolding loads_on
  on_vehicle_is key = refl

  -- ---- actions

  pub action_views_is : (key : VehicleKey) (trip : Trip) → HasTrip world key trip → action_views_of world key ≡ action_views trip.acts
  action_views_is key trip has = ap action_views_for has.1 ∙ ap action_views_by has.2

  -- an act of an open trip, and its action
  pub action_view_of : (key : VehicleKey) (trip : Trip) (act : Act) → HasAct world key trip act → (k : ℕ) × (slice_get (action_views_of world key) k ≡ Some (action_view act))
  action_view_of key trip act has =
      let at = place_of trip.acts act has.among in
      (at.0, subst (λ list. slice_get list at.0 ≡ Some (action_view act)) (sym (action_views_is key trip has.open_trip)) (mapped_at action_view trip.acts at.0 act at.1))

  -- the act that an action is of
  pub record OfAct (key : VehicleKey) (k : ℕ) (its : ActionView) : Type 0 where
    pub trip : Trip
    pub open_trip : HasTrip world key trip
    pub act : Act
    pub here : slice_get trip.acts k ≡ Some act
    pub is : action_view act ≡ its

  pub of_act : (key : VehicleKey) (k : ℕ) (its : ActionView) → slice_get (action_views_of world key) k ≡ Some its → OfAct key k its
  of_act key k its at = of_vehicle (finite.get world.vehicles key) refl at
    where
      of_trip : (vehicle : Vehicle) (trip : Option Trip) → IsVehicle world key vehicle → vehicle.trip ≡ trip → slice_get (action_views_by trip) k ≡ Some its → OfAct key k its
      of_trip vehicle None known none at = absurd (no_more its at)
      of_trip vehicle (Some trip) known has at =
          let act = from_mapped action_view trip.acts k its at in
          record { trip = trip; open_trip = (vehicle, known, has); act = act.0; here = act.1; is = act.2 }

      of_vehicle : (found : Option Vehicle) → finite.get world.vehicles key ≡ found → slice_get (action_views_for found) k ≡ Some its → OfAct key k its
      of_vehicle None none at = absurd (no_more its at)
      of_vehicle (Some vehicle) known at = of_trip vehicle vehicle.trip known refl at

  pub has_act : (key : VehicleKey) (k : ℕ) (its : ActionView) → (of : OfAct key k its) → HasAct world key of.trip of.act
  has_act key k its of = record { open_trip = of.open_trip; among = among of.trip.acts k of.act of.here }
