-- What the checks of a load say where they pass: of the load, of the jobs, and of the room at a station.
use Rattle.std.proofs.Common.{◌≡◌, ◌+◌, ◌<◌, ◌≤◌, ◌==◌, ℕ, min, Bool, true, false, not, cond, is_some, nat_eq, List, [], ◌∷◌, length, count_by, find, Option, None, Some, Ok, Err, arith, refl, sym, ap, subst, eqb-true, ◌∙◌}
use Rattle.std.specs.Cmp.Lexicographic.{pointwise}
use Rattle.std.specs.FinMap as finite
use Rattle.std.specs.Option.{option_map}
use Rattle.std.proofs.lemmas.Bool.{false≢true, not-true, and_from}
use Rattle.std.proofs.lemmas.Bool.Decides.{nat_tests}
use Rattle.std.proofs.lemmas.List.{length-map}
use Rattle.std.proofs.lemmas.List.Sums.{length-filter, sum_by-cons}
use Rattle.agv_header.specs.declared.refusal.Refusal.{Refusal}
use Rattle.agv_layout.specs.Layout.{IsStation}
use Rattle.agv_layout.specs.declared.station.StationSite.{StationSite}
use Rattle.agv_stock.specs.Checks as check
use Rattle.agv_stock.specs.Checks.{Checked, is_known, has_room}
use Rattle.agv_stock.specs.Rooms.{is_at, room_left, station_of_place}
use Rattle.agv_stock.specs.declared.goal.Goal.{Goal}
use Rattle.agv_stock.specs.declared.place.Place.{Place}
use Rattle.agv_stock.specs.declared.place.Place.TheVariants as place
use Rattle.agv_world_core.specs.StockInvariant.{HasStockInvariant, IsKnownPlace, stored}
use Rattle.agv_world_core.specs.Questions.{is_live_for, job_of, loads_at, reserved, room_at, reserved_by}
use Rattle.agv_world_core.specs.Worlds.{World}
use Rattle.agv_world_core.specs.declared.row.JobRow.{JobRow}
use Rattle.agv_world_core.proofs.lists.Entries.{same_Some}
use Rattle.agv_world_core.proofs.lists.Orders.{names_total}
use Rattle.agv_desk.specs.LoadSteps.{place_of}
use Rattle.agv_desk.specs.Shared.{goal_at, goal_of, is_in_job}
use Rattle.agv_desk.proofs.stock.StockInvariantChanges.{IsFree}
use Rattle.agv_desk.proofs.outcomes.Known.{none_some}
use Rattle.agv_desk.proofs.lists.SameNames.{same_name, name_itself}
use Rattle.agv_desk.proofs.lists.Writes.{none_passes, one_if}

-- ---- the tests of a check
err_ok : {X : Type 0} (why : Refusal) → ◌≡◌ {A = Checked} (Err why) (Ok tt) → X
err_ok why e = cc

passed_check_that : (test : Bool) (why : Refusal) (rest : Checked) → check.check_that test why rest ≡ Ok tt → (test ≡ true) × (rest ≡ Ok tt)
passed_check_that true why rest e = (refl, e)
passed_check_that false why rest e = err_ok why e

passed_check_load : (known : Option Place) (rest : Place → Checked) → check.check_load known rest ≡ Ok tt → (at : Place) × (known ≡ Some at) × (rest at ≡ Ok tt)
passed_check_load None rest e = err_ok _ e
passed_check_load (Some at) rest e = (at, refl, e)

pub not_there : {A : Type 0} (there : Option A) → not (is_some there) ≡ true → there ≡ None
not_there None e = refl
not_there (Some x) e = absurd (false≢true e)

-- a load that is registered is new, and fits where it goes
pub registers : (known : Option Place) (goal : Goal) → check.register_check known goal ≡ Ok tt → (known ≡ None) × (is_known goal ≡ true) × (has_room goal ≡ true)
registers known goal e =
    let new = passed_check_that _ _ _ e in
    let there = passed_check_that _ _ _ new.1 in
    let room = passed_check_that _ _ _ there.1 in
    (not_there known new.0, there.0, room.0)

-- a load whose place is corrected is known and in no job, and fits where it goes
pub corrects : (known : Option Place) (live : Bool) (goal : Goal) → check.correct_check known live goal ≡ Ok tt → (at : Place) × (known ≡ Some at) × (live ≡ false) × (is_known goal ≡ true) × (has_room goal ≡ true)
corrects known live goal e =
    let found = passed_check_load known _ e in
    let there = passed_check_that _ _ _ found.2 in
    let stays = passed_check_that _ _ _ there.1 in
    let free = passed_check_that _ _ _ stays.1 in
    let other = passed_check_that _ _ _ free.1 in
    let room = passed_check_that _ _ _ other.1 in
    (found.0, found.1, not-true live free.0, there.0, room.0)

-- a load that leaves is known and in no job
pub leaves : (known : Option Place) (live : Bool) → check.leave_check known live ≡ Ok tt → (at : Place) × (known ≡ Some at) × (live ≡ false)
leaves known live e =
    let found = passed_check_load known _ e in
    let stays = passed_check_that _ _ _ found.2 in
    let free = passed_check_that _ _ _ stays.1 in
    (found.0, found.1, not-true live free.0)

-- a job that is added is new, its load is in no job, and fits where it goes
pub adds : (job_known : Bool) (known : Option Place) (live : Bool) (goal : Goal) → check.job_check job_known known live goal ≡ Ok tt → (job_known ≡ false) × (live ≡ false) × (is_known goal ≡ true) × (has_room goal ≡ true)
adds job_known known live goal e =
    let new = passed_check_that _ _ _ e in
    let found = passed_check_load known _ new.1 in
    let there = passed_check_that _ _ _ found.2 in
    let stands = passed_check_that _ _ _ there.1 in
    let free = passed_check_that _ _ _ stands.1 in
    let other = passed_check_that _ _ _ free.1 in
    let room = passed_check_that _ _ _ other.1 in
    (not-true job_known new.0, not-true live free.0, there.0, room.0)

-- a load that stands at a station is there
pub station_there : (there : Option Place) (origin : List ℕ) → station_of_place there ≡ Some origin → there ≡ Some (place.Station origin)
station_there None origin e = none_some e
station_there (Some (place.Station id)) origin e = ap (λ (name : List ℕ). Some (place.Station name)) (same_Some _ _ e)
station_there (Some (place.Vehicle key)) origin e = none_some e
station_there (Some place.Checking) origin e = none_some e
station_there (Some place.Left) origin e = none_some e

-- ---- jobs
no_sum : (a b c : ℕ) → a ≡ b + c → b ≡ 0 → c ≡ 0 → a ≡ 0
no_sum a b c sum one rest = omega arith

none_counted : (test : List ℕ × JobRow → Bool) (jobs : List (List ℕ × JobRow)) → is_some (option_map (λ (job : List ℕ × JobRow). job.0) (find test jobs)) ≡ false → count_by test jobs ≡ 0
none_counted test [] none = refl
none_counted test (job ∷ jobs) none =
    elim (test job) as (λ b. test job ≡ b → is_some (option_map (λ (job : List ℕ × JobRow). job.0) (cond b (Some job) (find test jobs))) ≡ false → count_by test (job ∷ jobs) ≡ 0) [
      | true ↦ λ passes some. absurd (false≢true (sym some))
      | false ↦ λ fails rest. no_sum _ _ _ (sum_by-cons (λ (entry : List ℕ × JobRow). one_if (test entry)) job jobs) (ap one_if fails) (none_counted test jobs rest)
    ] refl none

-- a load with no live job is free
pub free_if : (world : World) (load : List ℕ) → is_in_job world load ≡ false → IsFree world.jobs load
unfolding job_of
free_if world load none job row there live same =
    let fails = none_passes names_total (is_live_for load) world.jobs (none_counted (λ (job : List ℕ × JobRow). is_live_for load job.1) (finite.entries world.jobs) none) job row there in
    false≢true (sym fails ∙ and_from _ _ live (ap (λ name. pointwise nat_eq name load) same ∙ name_itself load))

-- ---- room
mapped : {A B : Type 0} (f : A → B) (there : Option A) (b : B) → option_map f there ≡ Some b → (a : A) × (there ≡ Some a)
mapped f None b e = none_some e
mapped f (Some a) b e = (a, refl)

at_goal : (station : List ℕ) (there : Option ℕ) → is_known (goal_at station there) ≡ true → (room : ℕ) × (there ≡ Some room)
at_goal station None known = absurd (false≢true known)
at_goal station (Some room) known = (room, refl)

-- where there is room for one load, there is some
some_room : (room : ℕ) → not (min room 1 == 0) ≡ true → (room == 0) ≡ false
some_room room has =
    elim (room == 0) as (λ b. (room == 0) ≡ b → b ≡ false) [
      | true ↦ λ none. absurd (false≢true (sym (ap (λ (n : ℕ). not (min n 1 == 0)) (eqb-true room 0 none)) ∙ has))
      | false ↦ λ some. refl
    ] refl

some_left : (capacity loads jobs room : ℕ) → room_left capacity loads jobs ≡ room → (room == 0) ≡ false → loads + jobs + 1 ≤ capacity
some_left capacity loads jobs room is some =
    let more : 0 < room = grind (arith, nat_tests) in
    omega arith

module _ (world : World) where
  stored_is : (station : List ℕ) → length (loads_at world station) ≡ stored world.places station
  unfolding loads_at
  stored_is station = length-map _ _ ∙ length-filter (λ (load : List ℕ × Place). is_at station load.1) (finite.entries world.places)

  site_there : (station : List ℕ) (room : ℕ) → room_at world station ≡ Some room → (site : StationSite) × IsStation world.layout station site
  unfolding room_at
  site_there station room is = mapped _ (finite.get world.layout.stations station) room is

  -- one load more fits where there is room
  one_fits : (station : List ℕ) (site : StationSite) (room : ℕ) → IsStation world.layout station site → room_at world station ≡ Some room → (room == 0) ≡ false
      → stored world.places station + reserved_by world.jobs station + 1 ≤ site.capacity
  unfolding room_at reserved
  one_fits station site room there is some =
      let left : Option StationSite → Option ℕ = λ found. option_map (λ (site : StationSite). room_left site.capacity (length (loads_at world station)) (reserved world station)) found in
      let told : room_left site.capacity (length (loads_at world station)) (reserved_by world.jobs station) ≡ room = same_Some _ _ (sym (ap left there) ∙ is) in
      subst (λ loads. loads + reserved_by world.jobs station + 1 ≤ site.capacity) (stored_is station)
      (some_left site.capacity (length (loads_at world station)) (reserved_by world.jobs station) room told some)

  -- the station where a load is to go is known
  pub goal_known : (station : Option (List ℕ)) → is_known (goal_of world station) ≡ true → IsKnownPlace world.layout (place_of station)
  goal_known None known = tt
  goal_known (Some station) known =
      let room = at_goal station (room_at world station) known in
      site_there station room.0 room.1

  module _ (stock : HasStockInvariant world) where
    -- one that goes to a station where there is room fits
    pub fits_more : (station : List ℕ) → is_known (goal_of world (Some station)) ≡ true → has_room (goal_of world (Some station)) ≡ true
        → (other : List ℕ) (site : StationSite) → IsStation world.layout other site → stored world.places other + reserved_by world.jobs other + one_if (pointwise nat_eq station other) ≤ site.capacity
    fits_more station known has other site there =
        let room = at_goal station (room_at world station) known in
        let some = some_room room.0 (subst (λ (there : Option ℕ). has_room (goal_at station there) ≡ true) room.1 has) in
        elim (pointwise nat_eq station other) as (λ b. pointwise nat_eq station other ≡ b → stored world.places other + reserved_by world.jobs other + one_if b ≤ site.capacity) [
          | true ↦ λ same. one_fits other site room.0 there (ap (room_at world) (sym (same_name station other same)) ∙ room.1) some
          | false ↦ λ differs. omega (arith, stock.room other site there)
        ] refl

    pub goal_fits : (station : Option (List ℕ)) → is_known (goal_of world station) ≡ true → has_room (goal_of world station) ≡ true
        → (other : List ℕ) (site : StationSite) → IsStation world.layout other site → stored world.places other + reserved_by world.jobs other + one_if (is_at other (place_of station)) ≤ site.capacity
    goal_fits None known has other site there = omega (arith, stock.room other site there)
    goal_fits (Some station) known has other site there = fits_more station known has other site there
