-- How many there are after what is written: as many as before where it is written in place of another, and one more where it is new.
use Rattle.std.proofs.Common.{◌≡◌, ◌≢◌, ◌+◌, ℕ, suc, Bool, true, false, cond, is_some, List, [], ◌∷◌, map, zip, filter_map, option_map, Option, None, Some, Ordering, Contains, arith, refl, ap, subst, ◌∙◌}
use Rattle.std.specs.Cmp.{IsTotalOrder}
use Rattle.std.specs.Cmp.Lexicographic.{nat_list_cmp_total}
use Rattle.std.specs.FinMap as finite
use Rattle.std.specs.FinSet as set
use Rattle.std.specs.List.{AllByRecursion, cons_option}
use Rattle.agv_header.specs.Name.{name_cmp}
use Rattle.agv_header.specs.declared.key.VehicleKey.{VehicleKey}
use Rattle.agv_message_core.specs.declared.status.Status.{Status}
use Rattle.agv_order.specs.StopPlaces.{stop_picks}
use Rattle.agv_order.specs.declared.act.Act.{Act}
use Rattle.agv_order.specs.declared.stop.Stop.{Stop}
use Rattle.agv_order.specs.declared.trip.Trip.{Trip}
use Rattle.agv_stock.specs.declared.job.Job.{Job}
use Rattle.agv_stock.specs.declared.job.Phase.{Phase}
use Rattle.agv_stock.specs.declared.job.Phase.TheVariants as phase
use Rattle.agv_world_core.specs.Counts.{one_more}
use Rattle.agv_world_core.specs.StockInvariant.{Jobs, Places}
use Rattle.agv_world_core.specs.Questions.{count_of}
use Rattle.agv_world_core.specs.TableChanges.{written}
use Rattle.agv_world_core.specs.Worlds.{World}
use Rattle.agv_world_core.specs.declared.floor.Counted.{Counted}
use Rattle.agv_world_core.specs.declared.floor.Counted.TheVariants as counted
use Rattle.agv_world_core.specs.declared.row.JobRow.{JobRow}
use Rattle.agv_world_core.proofs.lists.Orders.{names_total, names_apart}
use Rattle.agv_desk.specs.ActSteps.{Renewed, act_job, act_jobs, act_move, act_moves, as_it_is, becomes_finished, job_in, jobs_stopped, phase_by, taken_to}
use Rattle.agv_desk.specs.OrderSteps.{jobs_for, riding}
use Rattle.agv_desk.specs.Outcomes.{Acted, Move, moved}
use Rattle.agv_desk.proofs.stock.StockInvariantCounts.{len_by}
use Rattle.agv_desk.proofs.outcomes.Known.{none_some, same_some}
use Rattle.agv_desk.proofs.trip_acts.OrderJobs.{begins, riding_is}
use Rattle.agv_desk.proofs.lists.Writes.{is_written, written_has}

-- ---- one entry

-- the key has a value
abbrev pub IsKnown : {K X : Type 0} {R : K → K → Ordering} → finite.FinMap R X → K → Type 0
IsKnown {X} m key = (value : X) × (finite.get m key ≡ Some value)

module _ {K X : Type 0} {R : K → K → Ordering} (total : IsTotalOrder R) (m : finite.FinMap R X) (key : K) (value : X) where
  len_by_key : (there : Option X) → finite.get m key ≡ there → finite.len (finite.insert m key value) ≡ cond (is_some there) (finite.len m) (finite.len m + 1)
  len_by_key there is = finite.len-insert total m key value ∙ ap (λ (found : Option X). cond (is_some found) (finite.len m) (finite.len m + 1)) is

  pub len_known : IsKnown m key → finite.len (finite.insert m key value) ≡ finite.len m
  len_known known = len_by_key (Some known.0) known.1

  pub len_new : finite.get m key ≡ None → finite.len (finite.insert m key value) ≡ finite.len m + 1
  len_new free = len_by_key None free

-- a name that was not used
pub len_name : (names : set.FinSet name_cmp) (name : List ℕ) → set.contains names name ≡ false → set.len (set.insert names name) ≡ set.len names + 1
len_name names name new = set.len-insert nat_list_cmp_total names name ∙ ap (λ used. cond used (set.len names) (set.len names + 1)) new

-- ---- jobs

-- each of these is a job that is known
abbrev pub AreJobs : Jobs → List (List ℕ × JobRow) → Type 0
AreJobs jobs entries = AllByRecursion (λ (entry : List ℕ × JobRow). IsKnown jobs entry.0) entries

still_jobs : (jobs : Jobs) (job : List ℕ) (row : JobRow) (entries : List (List ℕ × JobRow)) → AreJobs jobs entries → AreJobs (finite.insert jobs job row) entries
still_jobs jobs job row [] all = tt
still_jobs jobs job row (entry ∷ entries) all =
    (written_has names_total names_apart jobs job row _ (is_written names_total names_apart jobs job row) entry.0 all.0, still_jobs jobs job row entries all.1)

pub len_jobs : (entries : List (List ℕ × JobRow)) (jobs : Jobs) → AreJobs jobs entries → finite.len (written jobs entries) ≡ finite.len jobs
len_jobs [] jobs all = refl
len_jobs (entry ∷ entries) jobs all =
    len_jobs entries (finite.insert jobs entry.0 entry.1) (still_jobs jobs entry.0 entry.1 entries all.1) ∙ len_known names_total jobs entry.0 entry.1 all.0

-- one entry more, or none
one_passes : {B : Type 0} (P : B → Type 0) (first : Option B) (rest : List B) → ((y : B) → first ≡ Some y → P y) → AllByRecursion P rest → AllByRecursion P (cons_option first rest)
one_passes P None rest passes all = all
one_passes P (Some y) rest passes all = (passes y refl, all)

all_pass : {A B : Type 0} (P : B → Type 0) (f : A → Option B) → ((x : A) (y : B) → f x ≡ Some y → P y) → (xs : List A) → AllByRecursion P (filter_map f xs)
all_pass P f passes [] = tt
all_pass P f passes (x ∷ xs) = one_passes P (f x) (filter_map f xs) (passes x) (all_pass P f passes xs)

module _ (world : World) where
  -- a job whose phase changes is known
  job_known : (job : List ℕ) (next : Option Phase) (entry : List ℕ × JobRow) → job_in world job next ≡ Some entry → IsKnown world.jobs entry.0
  job_known job None entry is = none_some is
  job_known job (Some next) entry is = by_row (finite.get world.jobs job) refl is
    where
      by_row : (found : Option JobRow) → finite.get world.jobs job ≡ found → option_map (λ (row : JobRow). (job, record row { phase = next })) found ≡ Some entry → IsKnown world.jobs entry.0
      by_row None there e = none_some e
      by_row (Some row) there e = subst (λ (one : List ℕ × JobRow). IsKnown world.jobs one.0) (same_some e) (row, there)

  pub len_act_jobs : (ended : Bool) (acts : List Renewed) → finite.len (written world.jobs (act_jobs world ended acts)) ≡ finite.len world.jobs
  len_act_jobs ended acts =
      len_jobs (act_jobs world ended acts) world.jobs
      (all_pass (λ (entry : List ℕ × JobRow). IsKnown world.jobs entry.0) (act_job world ended) (λ act entry is. job_known act.0.job (phase_by ended act) entry is) acts)

  pub len_stopped : (trip : Option Trip) → finite.len (written world.jobs (jobs_stopped world trip)) ≡ finite.len world.jobs
  len_stopped None = refl
  len_stopped (Some trip) = len_act_jobs true (map as_it_is trip.acts)

  begins_known : (stop : Stop) (entry : List ℕ × JobRow) → begins world stop ≡ Some entry → IsKnown world.jobs entry.0
  begins_known stop entry is = by_pick (stop_picks stop) is
    where
      by_pick : (picks : Bool) → cond picks (job_in world stop.job (Some phase.Riding)) None ≡ Some entry → IsKnown world.jobs entry.0
      by_pick true e = job_known stop.job (Some phase.Riding) entry e
      by_pick false e = none_some e

  pub len_riding : (stops : List Stop) (jobs : List Job) → jobs_for world stops ≡ Some jobs → finite.len (written world.jobs (riding stops jobs)) ≡ finite.len world.jobs
  len_riding stops jobs read =
      ap (λ entries. finite.len (written world.jobs entries)) (riding_is world stops jobs read)
      ∙ len_jobs _ world.jobs (all_pass (λ (entry : List ℕ × JobRow). IsKnown world.jobs entry.0) (begins world) begins_known stops)

-- ---- loads

-- the loads that acts move are theirs
moves_known : (places : Places) (key : VehicleKey) (order : List ℕ) (acts : List Act) (statuses : List Status) → ((act : Act) → Contains acts act → IsKnown places act.load)
    → AllByRecursion (λ (move : Move). IsKnown places move.load) (act_moves key order (zip acts statuses))
moves_known places key order [] statuses known = tt
moves_known places key order (act ∷ acts) [] known = tt
moves_known places key order (act ∷ acts) (status ∷ statuses) known =
    one_passes (λ (move : Move). IsKnown places move.load) (act_move key order (act, status)) (act_moves key order (zip acts statuses)) (λ move is. by_test (becomes_finished (act, status)) move is)
    (moves_known places key order acts statuses (λ other among. known other (suc among.0, omega (arith, among.1), among.2)))
  where
    by_test : (test : Bool) (move : Move) → cond test (Some (record { load = act.load; place = taken_to key act.kind act.station; cause = Acted act.kind order act.job })) None ≡ Some move
        → IsKnown places move.load
    by_test true move is = subst (λ (one : Move). IsKnown places one.load) (same_some is) (known act (0, omega arith, refl))
    by_test false move is = none_some is

pub len_act_moves : (places : Places) (key : VehicleKey) (order : List ℕ) (acts : List Act) (statuses : List Status) → ((act : Act) → Contains acts act → IsKnown places act.load)
    → finite.len (moved places (act_moves key order (zip acts statuses))) ≡ finite.len places
len_act_moves places key order acts statuses known = len_by (act_moves key order (zip acts statuses)) places (moves_known places key order acts statuses known)

-- ---- a world

-- as many of each kind, and one more of the kind that is counted
pub record Grows (world next : World) (kind : Option Counted) : Type 0 where
  pub vehicles : finite.len next.vehicles ≡ finite.len world.vehicles + one_more kind counted.Vehicles
  pub loads : finite.len next.places ≡ finite.len world.places + one_more kind counted.Loads
  pub jobs : finite.len next.jobs ≡ finite.len world.jobs + one_more kind counted.Jobs
  pub orders : set.len next.orders ≡ set.len world.orders + one_more kind counted.Orders
  pub references : set.len next.references ≡ set.len world.references + one_more kind counted.References

pub grown : (world next : World) (kind : Option Counted) → Grows world next kind → (what : Counted) → count_of next what ≡ count_of world what + one_more kind what
unfolding count_of
grown world next kind grows counted.Vehicles = grows.vehicles
grown world next kind grows counted.Loads = grows.loads
grown world next kind grows counted.Jobs = grows.jobs
grown world next kind grows counted.Orders = grows.orders
grown world next kind grows counted.References = grows.references

pub same : (n m : ℕ) → n ≡ m → n ≡ m + 0
same n m is = omega (arith, is)

-- as many vehicles, loads and jobs, and the same names
pub as_many : (world next : World) → finite.len next.vehicles ≡ finite.len world.vehicles → finite.len next.places ≡ finite.len world.places → finite.len next.jobs ≡ finite.len world.jobs
    → next.orders ≡ world.orders → next.references ≡ world.references → Grows world next None
as_many world next vehicles loads jobs orders references = record {
  vehicles = same _ _ vehicles;
  loads = same _ _ loads;
  jobs = same _ _ jobs;
  orders = same _ _ (ap set.len orders);
  references = same _ _ (ap set.len references);
}

-- one reference more
pub one_reference : (world next : World) → finite.len next.vehicles ≡ finite.len world.vehicles → finite.len next.places ≡ finite.len world.places → finite.len next.jobs ≡ finite.len world.jobs
    → next.orders ≡ world.orders → set.len next.references ≡ set.len world.references + 1 → Grows world next (Some counted.References)
one_reference world next vehicles loads jobs orders references = record {
  vehicles = same _ _ vehicles;
  loads = same _ _ loads;
  jobs = same _ _ jobs;
  orders = same _ _ (ap set.len orders);
  references = references;
}

-- ---- kinds

kind_is : (kind : Option Counted) (what : Counted) → one_more kind what ≢ 0 → kind ≡ Some what
kind_is None what more = absurd (more refl)
kind_is (Some counted.Vehicles) counted.Vehicles more = refl
kind_is (Some counted.Loads) counted.Loads more = refl
kind_is (Some counted.Jobs) counted.Jobs more = refl
kind_is (Some counted.Orders) counted.Orders more = refl
kind_is (Some counted.References) counted.References more = refl
kind_is (Some kind) what more = absurd (more refl)

-- what there is more of was counted, by a call that was not refused
pub counted_is : (refused : Bool) (kind : Option Counted) (what : Counted) → one_more (cond refused None kind) what ≢ 0 → kind ≡ Some what
counted_is true kind what more = absurd (more refl)
counted_is false kind what more = kind_is kind what more
