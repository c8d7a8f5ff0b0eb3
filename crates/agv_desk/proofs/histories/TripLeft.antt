-- The trip of a vehicle after a state: which one it is, and what its acts are.
use Rattle.std.proofs.Common.{◌≡◌, ◌≤◌, ◌↔◌, inl, inr, ℕ, zero, suc, cond, List, [], ◌∷◌, map, zip, length, Option, None, Some, is_some, refl, sym, ap, subst, ◌∙◌}
use Rattle.std.specs.FinMap as finite
use Rattle.std.specs.List.{slice_get}
use Rattle.std.proofs.lemmas.List.{length-map}
use Rattle.std.proofs.lemmas.Option.{slice_get-map}
use Rattle.std.specs.Option.{option_map}
use Rattle.agv_header.specs.declared.key.VehicleKey.{VehicleKey}
use Rattle.agv_message_core.specs.declared.order.ActKind.{ActKind}
use Rattle.agv_message_core.specs.declared.order.ActKind.TheVariants.{Pick, Drop}
use Rattle.agv_message_core.specs.declared.status.Status.{Status}
use Rattle.agv_order.specs.StopPlaces.{ArePaired, IsAt}
use Rattle.agv_order.specs.Stops.{are_paired}
use Rattle.agv_order.specs.Trips.{task_of, stop_of}
use Rattle.agv_order.specs.WellFormed.{IsUnderWay}
use Rattle.agv_order.specs.declared.act.Act.{Act}
use Rattle.agv_order.specs.declared.stop.Stop.{Stop}
use Rattle.agv_order.specs.declared.trip.Trip.{Trip}
use Rattle.std.specs.Prelude.{IsTrue}
use Rattle.agv_track.specs.Progressed.{progressed, Advances, ActGoesOn}
use Rattle.agv_track.specs.Reports.{with_status, renewed}
use Rattle.agv_track.specs.declared.progress.End.{End}
use Rattle.agv_track.specs.declared.progress.Progress.{Progress}
use Rattle.agv_world_core.specs.ConsistentTrips.{HasTrip, HasOneTripAnOrder}
use Rattle.agv_world_core.specs.LawfulParts.{HasLawfulVehicles, IsTripOf}
use Rattle.agv_world_core.specs.Worlds.{Vehicle, World}
use Rattle.agv_desk.specs.Outcomes.{Effect, Whole, with_touched, with_effect}
use Rattle.agv_desk.specs.StateSteps.{trip_left}
use Rattle.agv_desk.proofs.outcomes.EffectParts.{HasTripIn, which_vehicle, effect_vehicles}
use Rattle.agv_desk.proofs.outcomes.Keeping.{Continues}
use Rattle.agv_desk.proofs.outcomes.Known.{none_some, same_some}

-- ---- a trip of a lawful world

module _ (seats : ℕ) (world : World) (lawful : HasLawfulVehicles seats world) (key : VehicleKey) (trip : Trip) (has : HasTrip world key trip) where
  pub trip_lawful : IsTripOf world.layout key has.0.row trip
  trip_lawful = lawful.trips key has.0 trip has.1 has.2

  pub trip_under_way : IsUnderWay trip
  trip_under_way = trip_lawful.well_formed.under_way

  pub trip_few : length trip.acts ≤ 8
  trip_few = subst (λ n. n ≤ 8) (length-map trip.acts task_of) trip_lawful.well_formed.planned.few

-- ---- each job is picked once and dropped once

-- paired stops are each picked once and later dropped once
abbrev pub PairsAsSaid : Type 0
PairsAsSaid = (stops : List Stop) → IsTrue (are_paired stops) ↔ ArePaired stops

abbrev stops_of : List Act → List Stop
stops_of acts = map stop_of (map task_of acts)

stop_at : (acts : List Act) (k : ℕ) (act : Act) → slice_get acts k ≡ Some act → slice_get (stops_of acts) k ≡ Some (record { kind = act.kind; job = act.job })
stop_at acts k act there = slice_get-map stop_of (map task_of acts) k ∙ ap (option_map stop_of) (slice_get-map task_of acts k ∙ ap (option_map task_of) there)

pub one_act_each : PairsAsSaid → (acts : List Act) → IsTrue (are_paired (stops_of acts)) → (i k : ℕ) (one other : Act) → slice_get acts i ≡ Some one → slice_get acts k ≡ Some other
    → one.kind ≡ other.kind → one.job ≡ other.job → i ≡ k
one_act_each fits acts fit i k one other at_i at_k same_kind same_job =
    by_kind one.kind (stop_at acts i one at_i) (stop_at acts k other at_k ∙ (λ n. Some (record { kind = sym same_kind n; job = sym same_job n })))
  where
    by_kind : (kind : ActKind) → IsAt (stops_of acts) one.job kind i → IsAt (stops_of acts) one.job kind k → i ≡ k
    by_kind Pick here there = let served = ((fits (stops_of acts)).0 fit) i (record { kind = Pick; job = one.job }) here in served.3.1 i here ∙ sym (served.3.1 k there)
    by_kind Drop here there = let served = ((fits (stops_of acts)).0 fit) i (record { kind = Drop; job = one.job }) here in served.4.1 i here ∙ sym (served.4.1 k there)

-- ---- acts with new statuses

pub zipped_act : (acts : List Act) (statuses : List Status) (k : ℕ) (one : Act × Status) → slice_get (zip acts statuses) k ≡ Some one → slice_get acts k ≡ Some one.0
zipped_act [] statuses k one there = none_some there
zipped_act (act ∷ acts) [] k one there = none_some there
zipped_act (act ∷ acts) (status ∷ statuses) zero one there = ap (λ (o : Option (Act × Status)). option_map (λ (p : Act × Status). p.0) o) there
zipped_act (act ∷ acts) (status ∷ statuses) (suc k) one there = zipped_act acts statuses k one there

mapped_at : (pairs : List (Act × Status)) (k : ℕ) (act : Act) → slice_get (map with_status pairs) k ≡ Some act → (one : Act × Status) × (slice_get pairs k ≡ Some one) × (with_status one ≡ act)
mapped_at [] k act there = none_some there
mapped_at (one ∷ pairs) zero act there = (one, refl, same_some there)
mapped_at (one ∷ pairs) (suc k) act there = mapped_at pairs k act there

-- an act with a new status is an act of before, with one of the statuses
pub renewed_act : (acts : List Act) (statuses : List Status) (k : ℕ) (act : Act) → slice_get (renewed acts statuses) k ≡ Some act
    → (one : Act × Status) × (slice_get (zip acts statuses) k ≡ Some one) × (with_status one ≡ act)
renewed_act acts statuses k act there = mapped_at (zip acts statuses) k act there

-- a trip that a state brings further goes on
pub progress_continues : (trip : Trip) (progress : Progress) → Advances trip progress → Continues trip (progressed trip progress)
progress_continues trip progress step = record {
  order = refl;
  further = step.forward;
  acts = λ k act there.
      let one = renewed_act trip.acts progress.statuses k act there in
      let was = zipped_act trip.acts progress.statuses k one.0 one.1 in
      let now = step.acts k one.0.0 was in
      (one.0.0, was, subst (λ (after : Act). ActGoesOn one.0.0 after) (same_some (sym now.1 ∙ there)) now.2);
}

-- ---- which trip is left

pub left_is : (trip : Trip) (progress : Progress) (left : Trip) → trip_left trip progress ≡ Some left → (progress.«end» ≡ None) × (progressed trip progress ≡ left)
left_is trip progress left is = by_end progress.«end» refl is
  where
    by_end : (over : Option End) → progress.«end» ≡ over → cond (is_some over) None (Some (progressed trip progress)) ≡ Some left → (progress.«end» ≡ None) × (progressed trip progress ≡ left)
    by_end None open_still e = (open_still, same_some e)
    by_end (Some why) over e = none_some e

-- where a vehicle with a trip is written, no other vehicle has a trip of that order
pub only_trip : (world : World) → HasOneTripAnOrder world → (effect : Effect) (key : VehicleKey) (old : Option Vehicle) (new : Vehicle) (trip : Trip) → effect.touched ≡ Whole key old new → HasTrip world key trip
    → (other : VehicleKey) (more : Trip) → HasTrip (with_effect world effect) other more → more.order ≡ trip.order → (other ≡ key) × (new.trip ≡ Some more)
only_trip world one_trip effect key old new trip put has other more there same =
    let now : HasTripIn (finite.insert world.vehicles key new) other more =
    subst (λ vehicles. HasTripIn vehicles other more) (effect_vehicles world effect ∙ ap (λ touched. (with_touched world touched).vehicles) put) there in
    elim (which_vehicle world.vehicles key new other (Some now.0) now.1) [
      | inl is ↦ (is.0, ap (λ (vehicle : Vehicle). vehicle.trip) (sym (same_some is.1)) ∙ now.2)
      | inr was ↦ absurd (was.0 (one_trip other key more trip (now.0, was.1, now.2) has same))
    ]
