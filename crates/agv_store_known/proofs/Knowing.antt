-- What is known beside the tables, with a part more or less, and through a list of changes, one after the other.
use Rattle.std.proofs.Common.{◌≡◌, ◌+◌, ◌<◌, ◌≤◌, ◌++◌, ℕ, List, [], ◌∷◌, Option, length, take, take_all, get_or, sym, ap, subst, ◌∙◌}
use Rattle.std.proofs.lemmas.List.{take_more}
use Rattle.agv_layout.specs.Layout.{Layout}
use Rattle.agv_world_core.specs.Changes.{change, changed}
use Rattle.agv_world_core.specs.Maps.{Maps}
use Rattle.agv_world_core.specs.declared.change.Change.{Change}
use Rattle.agv_world_core.specs.declared.floor.Counted.{Counted}
use Rattle.agv_store_known.specs.KeptJobs.{AreJobs, JobsOf}
use Rattle.agv_store_known.specs.KeptLayouts.{IsLayoutOf}
use Rattle.agv_store_known.specs.KeptRooms.{AreLeft, RoomsLeft}
use Rattle.agv_store_known.specs.KeptTrips.{AreTrips, TripsOf}
use Rattle.agv_store_known.specs.KeptVehicles.{AreVehicles, VehiclesOf}
use Rattle.agv_store_known.specs.Known.{IsKnown}
use Rattle.agv_store_known.specs.declared.known.Known.{Known}

-- ---- one part more or less

module _ {known : Known} {count : Counted → ℕ} {maps : Maps} where
  pub with_layout : {layout : Option Layout} → IsLayoutOf layout maps → IsKnown known count maps → IsKnown (record known { layout = layout }) count maps
  with_layout so is = record { counted = is.counted; agrees = so; fits = is.fits; trips_are = is.trips_are; vehicles_are = is.vehicles_are; jobs_are = is.jobs_are }

  pub with_rooms : {rooms : RoomsLeft} → AreLeft rooms maps → IsKnown known count maps → IsKnown (record known { rooms = rooms }) count maps
  with_rooms so is = record { counted = is.counted; agrees = is.agrees; fits = so; trips_are = is.trips_are; vehicles_are = is.vehicles_are; jobs_are = is.jobs_are }

  pub with_trips : {trips : TripsOf} → AreTrips trips maps → IsKnown known count maps → IsKnown (record known { trips = trips }) count maps
  with_trips so is = record { counted = is.counted; agrees = is.agrees; fits = is.fits; trips_are = so; vehicles_are = is.vehicles_are; jobs_are = is.jobs_are }

  pub with_vehicles : {vehicles : VehiclesOf} → AreVehicles vehicles maps → IsKnown known count maps → IsKnown (record known { vehicles = vehicles }) count maps
  with_vehicles so is = record { counted = is.counted; agrees = is.agrees; fits = is.fits; trips_are = is.trips_are; vehicles_are = so; jobs_are = is.jobs_are }

  pub with_jobs : {jobs : Option JobsOf} → AreJobs jobs maps → IsKnown known count maps → IsKnown (record known { jobs = jobs }) count maps
  with_jobs so is = record { counted = is.counted; agrees = is.agrees; fits = is.fits; trips_are = is.trips_are; vehicles_are = is.vehicles_are; jobs_are = so }

-- ---- changes

-- the law that is cited
abbrev pub ChangesInTurn : Type 0
ChangesInTurn = (first later : List Change) (maps : Maps) → changed (first ++ later) maps ≡ changed later (changed first maps)

module _ (all : List Change) (first : Known) where
  -- so it is known of the maps that the changes lead to
  abbrev pub LeadsTo : List Change → Known → Type 0
  LeadsTo changes now = (count : Counted → ℕ) (maps : Maps) → IsKnown first count maps → IsKnown now count (changed changes maps)

  -- through no change
  pub none_changed : LeadsTo (take 0 all) first
  unfolding changed
  none_changed count maps is = is

  -- through the changes so far, and through one more
  pub one_changed_more : ChangesInTurn → (i : ℕ) (one : Change) (mid now : Known) → i < length all → one ≡ get_or all i one
      → LeadsTo (take i all) mid → ((count : Counted → ℕ) (maps : Maps) → IsKnown mid count maps → IsKnown now count (change maps one)) → LeadsTo (take (i + 1) all) now
  unfolding changed
  one_changed_more in_turn i one mid now low is so_far more count maps known =
      subst (λ changes. IsKnown now count (changed changes maps)) (ap (λ x. take i all ++ x ∷ []) is ∙ sym (take_more all i one low))
      (subst (IsKnown now count) (sym (in_turn (take i all) (one ∷ []) maps)) (more count (changed (take i all) maps) (so_far count maps known)))

  -- through all of them
  pub all_changed : (i : ℕ) (now : Known) → length all ≤ i → LeadsTo (take i all) now → LeadsTo all now
  all_changed i now whole so_far = subst (λ changes. LeadsTo changes now) (take_all i all whole) so_far
