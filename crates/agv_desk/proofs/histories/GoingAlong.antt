-- What each call leaves of the history of a world: its trips go on, its vehicles' numbers don't fall, and no act is carried out twice.
use Rattle.std.proofs.Common.{◌≡◌, ◌≤◌, ◌⊎◌, inl, inr, ℕ, true, false, List, Option, Some, refl, sym, ap, subst, ◌∙◌, arith}
use Rattle.std.specs.FinMap as finite
use Rattle.std.specs.FinSet as set
use Rattle.std.specs.Option.{option_map}
use Rattle.agv_header.specs.declared.key.VehicleKey.{VehicleKey}
use Rattle.agv_message_core.specs.declared.instant.InstantKind.{InstantKind}
use Rattle.agv_message_core.specs.declared.order.ActKind.{ActKind}
use Rattle.agv_order.specs.Statuses.{is_finished}
use Rattle.agv_order.specs.declared.act.Act.{Act}
use Rattle.agv_order.specs.declared.trip.Trip.{Trip}
use Rattle.agv_world_core.specs.ConsistentTrips.{HasTrip}
use Rattle.agv_world_core.specs.Questions.{row_of, trip_of}
use Rattle.agv_world_core.specs.VehicleChanges.{with_vehicle}
use Rattle.agv_world_core.specs.Worlds.{Vehicle, World}
use Rattle.agv_world_core.specs.declared.row.VehicleRow.{VehicleRow}
use Rattle.std.specs.List.{slice_get}
use Rattle.agv_desk.specs.Histories.{times}
use Rattle.agv_desk.specs.Outcomes.{Effect, VehicleChange, Nothing, RowOnly, Whole, with_touched, with_effect}
use Rattle.agv_desk.proofs.outcomes.EffectParts.{HasTripIn, which_vehicle, effect_vehicles, effect_orders}
use Rattle.agv_desk.proofs.outcomes.Keeping.{Continues, FollowsBy}
use Rattle.agv_desk.proofs.outcomes.Known.{has_trip, same_some, vehicle_with}
use Rattle.agv_desk.proofs.histories.TripsFollow.{trip_itself}

-- ---- trips

-- a trip that the vehicle has afterwards has gone on, or its order was not used
abbrev pub TripGoesOn : World → VehicleKey → Trip → Type 0
TripGoesOn world key trip = ((old : Trip) × HasTrip world key old × Continues old trip) ⊎ (set.contains world.orders trip.order ≡ false)

abbrev pub TripsGoOn : World → VehicleChange → Type 0
TripsGoOn world Nothing = Unit {0}
TripsGoOn world (RowOnly key old row) = Unit {0}
TripsGoOn world (Whole key old new) = (trip : Trip) → new.trip ≡ Some trip → TripGoesOn world key trip

-- ---- numbers

-- the number of the last instantActions message does not fall; an action that is pending under the same number was pending; and the number of the last state does not fall, but where it is forgotten
pub record RowGoesOn (forgotten : Type 0) (row next : VehicleRow) : Type 0 where
  pub count : row.instants.count ≤ next.instants.count
  pub pending : next.instants.count ≡ row.instants.count → (kind : InstantKind) → next.pending ≡ Some kind → row.pending ≡ Some kind
  pub header : (number : ℕ) → row.last_header ≡ Some number → ((last : ℕ) × (next.last_header ≡ Some last) × (number ≤ last)) ⊎ forgotten

abbrev pub RowsGoOn : World → (VehicleKey → Type 0) → VehicleChange → Type 0
RowsGoOn world forgets Nothing = Unit {0}
RowsGoOn world forgets (RowOnly key old next) = (row : VehicleRow) → row_of world key ≡ Some row → RowGoesOn (forgets key) row next
RowsGoOn world forgets (Whole key old new) = (row : VehicleRow) → row_of world key ≡ Some row → RowGoesOn (forgets key) row new.row

pub row_itself : (forgotten : Type 0) (row : VehicleRow) → RowGoesOn forgotten row row
row_itself forgotten row = record { count = omega arith; pending = λ same kind is. is; header = λ number is. inl (number, is, omega arith) }

-- ---- acts

-- the name of the order is used, and wherever its trip is open its pick (or drop) of the job is finished
pub record IsSpent (kind : ActKind) (order job : List ℕ) (world : World) : Type 0 where
  pub used : set.contains world.orders order ≡ true
  pub over : (key : VehicleKey) (trip : Trip) → HasTrip world key trip → trip.order ≡ order
      → (k : ℕ) (act : Act) → slice_get trip.acts k ≡ Some act → act.kind ≡ kind → act.job ≡ job → is_finished act.status ≡ true

-- no move is the pick (or drop) of the job by the order, or one is, which was not spent before and is now
pub record ActsOnce (world : World) (effect : Effect) : Type 0 where
  pub once : (kind : ActKind) (order job : List ℕ)
      → (times kind order job effect.moves ≡ 0)
      ⊎ ((times kind order job effect.moves ≡ 1) × (IsSpent kind order job world → ⊥) × IsSpent kind order job (with_effect world effect))

-- ---- all of it

pub record GoesAlong (world : World) (forgets : VehicleKey → Type 0) (effect : Effect) : Type 0 where
  pub trips : TripsGoOn world effect.touched
  pub rows : RowsGoOn world forgets effect.touched
  pub acts : ActsOnce world effect

-- ---- the trips after an effect

-- each trip of the vehicles with one written is one of before, or that of the one that was written
written_trip : (world : World) (key : VehicleKey) (new : Vehicle) → ((trip : Trip) → new.trip ≡ Some trip → TripGoesOn world key trip)
    → (other : VehicleKey) (trip : Trip) → HasTrip (with_vehicle world key new) other trip → TripGoesOn world other trip
written_trip world key new goes other trip has = elim (which_vehicle world.vehicles key new other (Some has.0) has.1) [
  | inl is ↦ subst (λ one. TripGoesOn world one trip) (sym is.0) (goes trip (ap (λ (vehicle : Vehicle). vehicle.trip) (sym (same_some is.1)) ∙ has.2))
  | inr was ↦ inl (trip, (has.0, was.1, has.2), trip_itself trip)
]

touched_trips : (world : World) (touched : VehicleChange) → TripsGoOn world touched → (key : VehicleKey) (trip : Trip) → HasTrip (with_touched world touched) key trip → TripGoesOn world key trip
touched_trips world Nothing goes key trip has = inl (trip, has, trip_itself trip)
touched_trips world (RowOnly key old row) goes other trip has =
    written_trip world key (vehicle_with row (trip_of world key)) (λ one same. inl (one, has_trip world key one same, trip_itself one)) other trip has
touched_trips world (Whole key old new) goes other trip has = written_trip world key new goes other trip has

pub follows_effect : (world : World) (effect : Effect) → TripsGoOn world effect.touched → FollowsBy world effect
follows_effect world effect goes = record {
  follows = record {
    orders = effect_orders world effect;
    trips = λ key trip has. touched_trips world effect.touched goes key trip (subst (λ vehicles. HasTripIn vehicles key trip) (effect_vehicles world effect) has);
  };
}

-- ---- the rows after an effect

abbrev row_in : Option Vehicle → Option VehicleRow
row_in there = option_map (λ (vehicle : Vehicle). vehicle.row) there

-- the row of the vehicle goes on
abbrev GoesOnIn : Type 0 → VehicleRow → Option Vehicle → Type 0
GoesOnIn forgotten row there = (next : VehicleRow) × (row_in there ≡ Some next) × RowGoesOn forgotten row next

written_row : (world : World) (forgets : VehicleKey → Type 0) (key : VehicleKey) (new : Vehicle) → ((row : VehicleRow) → row_of world key ≡ Some row → RowGoesOn (forgets key) row new.row)
    → (other : VehicleKey) (row : VehicleRow) → row_of world other ≡ Some row → GoesOnIn (forgets other) row (finite.get (finite.insert world.vehicles key new) other)
written_row world forgets key new goes other row is =
    elim (which_vehicle world.vehicles key new other (finite.get (finite.insert world.vehicles key new) other) refl) [
      | inl here ↦ (new.row, ap row_in here.1, subst (λ one. RowGoesOn (forgets one) row new.row) (sym here.0) (goes row (ap (row_of world) (sym here.0) ∙ is)))
      | inr there ↦ (row, ap row_in (sym there.1) ∙ is, row_itself (forgets other) row)
    ]

touched_rows : (world : World) (forgets : VehicleKey → Type 0) (touched : VehicleChange) → RowsGoOn world forgets touched
    → (key : VehicleKey) (row : VehicleRow) → row_of world key ≡ Some row → GoesOnIn (forgets key) row (finite.get (with_touched world touched).vehicles key)
touched_rows world forgets Nothing goes key row is = (row, is, row_itself (forgets key) row)
touched_rows world forgets (RowOnly key old new) goes other row is = written_row world forgets key (vehicle_with new (trip_of world key)) goes other row is
touched_rows world forgets (Whole key old new) goes other row is = written_row world forgets key new goes other row is

-- each vehicle that was there has a row that has gone on
pub row_after : (world : World) (forgets : VehicleKey → Type 0) (effect : Effect) → RowsGoOn world forgets effect.touched → (key : VehicleKey) (row : VehicleRow) → row_of world key ≡ Some row
    → (next : VehicleRow) × (row_of (with_effect world effect) key ≡ Some next) × RowGoesOn (forgets key) row next
row_after world forgets effect goes key row is =
    subst (λ vehicles. GoesOnIn (forgets key) row (finite.get vehicles key)) (sym (effect_vehicles world effect)) (touched_rows world forgets effect.touched goes key row is)
