-- The stock invariant holds after each call on a load or a job.
use Rattle.std.proofs.Common.{◌≡◌, ◌≢◌, ◌+◌, ◌<◌, ◌≤◌, ℕ, Bool, true, false, is_some, nat_lt, List, Option, None, Some, arith, refl, sym, ap, subst, ◌∙◌}
use Rattle.std.specs.FinMap as finite
use Rattle.std.specs.List.{slice_get}
use Rattle.std.proofs.lemmas.Bool.{false≢true}
use Rattle.std.proofs.lemmas.Bool.Decides.{nat_tests}
use Rattle.agv_header.specs.Limits.{most_records}
use Rattle.agv_header.specs.Name.{IsName, name_cmp}
use Rattle.agv_header.specs.declared.key.VehicleKey.{VehicleKey}
use Rattle.agv_message_core.specs.declared.order.ActKind.{ActKind}
use Rattle.agv_message_core.specs.declared.order.ActKind.TheVariants.{Pick, Drop}
use Rattle.agv_stock.specs.Rooms.{is_on}
use Rattle.agv_stock.specs.declared.job.Phase.{Phase}
use Rattle.agv_stock.specs.declared.job.Phase.TheVariants.{Waiting, Riding, Done, Stopped}
use Rattle.agv_stock.specs.declared.place.Place.TheVariants as place
use Rattle.agv_world_core.specs.StockInvariant.{ActionView, HasStockInvariant, Places, ActStands, capacity_of, action_views_of}
use Rattle.agv_world_core.specs.Questions.{count_of}
use Rattle.agv_world_core.specs.Worlds.{World}
use Rattle.agv_world_core.specs.declared.floor.Counted.TheVariants as counted
use Rattle.agv_world_core.specs.declared.row.JobRow.{JobRow}
use Rattle.agv_world_core.proofs.lists.Entries.{same_Some}
use Rattle.agv_world_core.proofs.lists.Orders.{names_total, names_apart}
use Rattle.agv_desk.specs.JobSteps.{add_job, is_waiting, stop_job}
use Rattle.agv_desk.specs.LoadSteps.{correct_load, leave_load, place_of, register_load}
use Rattle.agv_desk.specs.Outcomes.{Effect}
use Rattle.agv_desk.proofs.stock.StockInvariantChanges.{job_kept, place_kept}
use Rattle.agv_desk.proofs.outcomes.Keeping.{KeepsStock}
use Rattle.agv_desk.proofs.outcomes.Known.{none_some}
use Rattle.agv_desk.proofs.outcomes.Ladders.{IfMade, made_refuse_if_none, made_passed, made_refuse_unless}
use Rattle.agv_desk.proofs.stock.StockChecks.{adds, corrects, fits_more, free_if, goal_fits, goal_known, leaves, registers, station_there}
use Rattle.agv_desk.proofs.lists.Writes.{is_written, len-written, len-written-le}

-- ---- how many there are
less_than : (n : ℕ) → nat_lt n most_records ≡ true → n < 1000000
less_than n e = grind (arith, nat_tests)

one_more : (n m : ℕ) → n ≤ m + 1 → m < 1000000 → n ≤ 1000000
one_more n m more less = omega arith

few_more : {X : Type 0} (m : finite.FinMap name_cmp X) (name : List ℕ) (x : X) → nat_lt (finite.len m) most_records ≡ true → finite.len (finite.insert m name x) ≤ 1000000
few_more m name x few = one_more _ _ (len-written-le names_total names_apart m name x _ (is_written names_total names_apart m name x)) (less_than (finite.len m) few)

as_many : {X : Type 0} (m : finite.FinMap name_cmp X) (name : List ℕ) (x old : X) → finite.get m name ≡ Some old → finite.len m ≤ 1000000 → finite.len (finite.insert m name x) ≤ 1000000
as_many m name x old there few =
    subst (λ n. n ≤ 1000000) (sym (len-written names_total names_apart m name x old _ (is_written names_total names_apart m name x) there)) few

few_loads : (world : World) → nat_lt (count_of world counted.Loads) most_records ≡ true → nat_lt (finite.len world.places) most_records ≡ true
unfolding count_of
few_loads world few = few

few_jobs : (world : World) → nat_lt (count_of world counted.Jobs) most_records ≡ true → nat_lt (finite.len world.jobs) most_records ≡ true
unfolding count_of
few_jobs world few = few

-- ---- places and phases
ashore : (station : Option (List ℕ)) (key : VehicleKey) → is_on key (place_of station) ≡ false
ashore None key = refl
ashore (Some station) key = refl

pub waiting_if : (phase : Phase) → is_waiting phase ≡ true → phase ≡ Waiting
waiting_if Waiting e = refl
waiting_if Riding e = absurd (false≢true e)
waiting_if Done e = absurd (false≢true e)
waiting_if Stopped e = absurd (false≢true e)

-- the job of an action does not wait
stands_begun : (places : Places) (key : VehicleKey) (load station : List ℕ) (kind : ActKind) (finished : Bool) (phase : Phase) → ActStands places key load station kind finished phase → phase ≢ Waiting
stands_begun places key load station Pick false phase stands waits = let rides = stands.0 in cc
stands_begun places key load station Pick true phase stands waits = stands.0 waits
stands_begun places key load station Drop false phase stands waits = cc
stands_begun places key load station Drop true phase stands waits = cc

module _ (world : World) (stock : HasStockInvariant world) where
  abbrev P : Effect → Type 0
  P = KeepsStock world

  -- a job that waits is in no open trip
  pub in_no_trip : (job : List ℕ) (row : JobRow) → finite.get world.jobs job ≡ Some row → row.phase ≡ Waiting → (key : VehicleKey) (k : ℕ) (action_view : ActionView) → slice_get (action_views_of world key) k ≡ Some action_view → action_view.job ≢ job
  in_no_trip job row there waits key k action_view here same =
      let was = stock.carried key k action_view here in
      let is : was.row ≡ row = same_Some _ _ (sym was.here ∙ ap (finite.get world.jobs) same ∙ there) in
      stands_begun world.places key action_view.load action_view.station action_view.kind action_view.finished was.row.phase was.stands (ap (λ (z : JobRow). z.phase) is ∙ waits)

  -- ---- loads
  pub register_keeps : (load : List ℕ) (station : Option (List ℕ)) → IsName load → IfMade P (register_load world load station)
  register_keeps load station named =
      made_passed P _ _ (λ passed. made_refuse_unless P _ _ _ (λ few.
      let is = registers _ _ passed in
      let to = place_of station in
      record {
        stock = place_kept world.layout (action_views_of world) (capacity_of world) world.places world.jobs stock (record {
          load = load;
          to = to;
          after = finite.insert world.places load to;
          is = is_written names_total names_apart world.places load to;
          few = few_more world.places load to (few_loads world few);
          named = named;
          known_place = goal_known world station is.1;
          free = λ job row there live same. none_some (sym is.0 ∙ ap (finite.get world.places) (sym same) ∙ (stock.known job row there).load.1);
          ashore = ashore station;
          room = λ other site there. omega (arith, goal_fits world stock station is.1 is.2 other site there);
        });
      }))

  pub correct_keeps : (load reference : List ℕ) (station : Option (List ℕ)) → IfMade P (correct_load world load reference station)
  correct_keeps load reference station =
      made_refuse_unless P _ _ _ (λ new. made_passed P _ _ (λ passed. made_refuse_unless P _ _ _ (λ few.
      let is = corrects _ _ _ passed in
      let to = place_of station in
      record {
        stock = place_kept world.layout (action_views_of world) (capacity_of world) world.places world.jobs stock (record {
          load = load;
          to = to;
          after = finite.insert world.places load to;
          is = is_written names_total names_apart world.places load to;
          few = as_many world.places load to is.0 is.1 stock.few_loads;
          named = stock.loads_named load is.0 is.1;
          known_place = goal_known world station is.3;
          free = free_if world load is.2;
          ashore = ashore station;
          room = λ other site there. omega (arith, goal_fits world stock station is.3 is.4 other site there);
        });
      })))

  pub leave_keeps : (load reference : List ℕ) → IfMade P (leave_load world load reference)
  leave_keeps load reference =
      made_refuse_unless P _ _ _ (λ new. made_passed P _ _ (λ passed. made_refuse_unless P _ _ _ (λ few.
      let is = leaves _ _ passed in
      record {
        stock = place_kept world.layout (action_views_of world) (capacity_of world) world.places world.jobs stock (record {
          load = load;
          to = place.Left;
          after = finite.insert world.places load place.Left;
          is = is_written names_total names_apart world.places load place.Left;
          few = as_many world.places load place.Left is.0 is.1 stock.few_loads;
          named = stock.loads_named load is.0 is.1;
          known_place = tt;
          free = free_if world load is.2;
          ashore = λ key. refl;
          room = λ other site there. omega (arith, stock.room other site there);
        });
      })))

  -- ---- jobs
  pub add_keeps : (job load to : List ℕ) → IsName job → IfMade P (add_job world job load to)
  add_keeps job load to named =
      made_passed P _ _ (λ passed. made_refuse_if_none P _ _ _ (λ origin stands. made_refuse_unless P _ _ _ (λ few.
      let is = adds _ _ _ _ passed in
      let row : JobRow = record { load = load; origin = origin; target = to; phase = Waiting } in
      let at = station_there (finite.get world.places load) origin stands in
      let free = free_if world load is.1 in
      record {
        stock = job_kept world.layout (action_views_of world) (capacity_of world) world.places world.jobs stock (record {
          job = job;
          row = row;
          after = finite.insert world.jobs job row;
          is = is_written names_total names_apart world.jobs job row;
          few = few_more world.jobs job row (few_jobs world few);
          named = named;
          known = record { load = (place.Station origin, at); origin = stock.known_places load (place.Station origin) at; target = goal_known world (Some to) is.2 };
          apart = λ key k action_view here same. false≢true (sym is.0 ∙ ap (λ name. is_some (finite.get world.jobs name)) (sym same) ∙ ap (λ (found : Option JobRow). is_some found) (stock.carried key k action_view here).here);
          not_riding = λ e. cc;
          alone = λ live other further there still_live same. absurd (free other further there still_live same);
          waits = λ waits. at;
          room = λ other site there. omega (arith, fits_more world stock to is.2 is.3 other site there);
        });
      })))

  pub stop_keeps : (job : List ℕ) → IfMade P (stop_job world job)
  stop_keeps job =
      made_refuse_if_none P _ _ _ (λ old there. made_refuse_unless P _ _ _ (λ waits.
      let row : JobRow = record old { phase = Stopped } in
      let known = stock.known job old there in
      record {
        stock = job_kept world.layout (action_views_of world) (capacity_of world) world.places world.jobs stock (record {
          job = job;
          row = row;
          after = finite.insert world.jobs job row;
          is = is_written names_total names_apart world.jobs job row;
          few = as_many world.jobs job row old there stock.few_jobs;
          named = stock.jobs_named job old there;
          known = record { load = known.load; origin = known.origin; target = known.target };
          apart = in_no_trip job old there (waiting_if old.phase waits);
          not_riding = λ e. cc;
          alone = λ live. absurd (false≢true live);
          waits = λ e. cc;
          room = λ other site at. omega (arith, stock.room other site at);
        });
      }))
