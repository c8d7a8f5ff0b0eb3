-- What the rows of jobs that are asked for or counted answer, in a lawful world.
use Rattle.std.proofs.Common.{◌≡◌, ◌||◌, ◌&&◌, ◌+◌, ℕ, nat_eq, Bool, true, false, cond, List, length, map, count_by, find, Option, None, Some, Ok, Result, IsPermutation, refl, sym, ap, subst, ◌∙◌, ◌-◌, ◌^◌, ◌≤◌, min, arith, ap₂}
use Rattle.std.proofs.lemmas.Bool.{and_parts}
use Rattle.std.proofs.lemmas.List.Sums.{count_by-le-length}
use Rattle.std.specs.Cmp.Lexicographic.{pointwise, nat_list_cmp_total}
use Rattle.std.specs.FinMap as finite
use Rattle.std.specs.Option.{option_map, option_or}
use Rattle.sqlite_value.specs.Order.{Row}
use Rattle.agv_stock.specs.Phase.{is_live}
use Rattle.agv_stock.specs.declared.job.Phase.{Phase}
use Rattle.agv_stock.specs.declared.job.Phase.TheVariants as phase
use Rattle.agv_world_core.specs.Lawful.{IsLawful}
use Rattle.agv_world_core.specs.Questions.{is_live_for, is_live_to, job_of, reserved}
use Rattle.agv_world_core.specs.Maps.{maps_of}
use Rattle.agv_world_core.specs.Worlds.{World}
use Rattle.agv_world_core.specs.declared.row.JobRow.{JobRow}
use Rattle.agv_store_ask.specs.QueriedRows.{is_in_phase, name_and_phase}
use Rattle.agv_stock.specs.Phase.{phase_name}
use Rattle.agv_store_rows.specs.Columns.{job_columns, job_in}
use Rattle.agv_store_read.specs.FirstRow.{first_key_in, key_of}
use Rattle.agv_store_rows.specs.Rows.{TellRows, row_if, rows_of}
use Rattle.agv_store_sql.specs.CountQueries.{rows_counted}
use Rattle.agv_store_sql.specs.RowQueries.{rows_asked}
use Rattle.agv_store_schema.specs.SchemaNumbers.{desk_seats}
use Rattle.agv_store_read.specs.declared.open_fault.OpenFault.{OpenFault}
use Rattle.agv_store_schema.specs.declared.rows_by.RowsBy.TheVariants as by
use Rattle.agv_store_schema.specs.declared.rows_counted.RowsCounted.TheVariants as counted
use Rattle.agv_store_read.proofs.Asking.{Follows}
use Rattle.agv_store_ask.proofs.AskedShown.{shown_asked}
use Rattle.agv_store_rows.proofs.ColumnsKept.{job_kept}
use Rattle.agv_store_schema.proofs.FewEntries.{counts_add, found_entry, listed, one_by_either, one_passes}
use Rattle.agv_store_ask.proofs.KeyAnswers.{only}
use Rattle.agv_store_rows.proofs.LawfulValues.{job_value}
use Rattle.agv_store_rows.proofs.ListsHeld.{alike_itself}
use Rattle.agv_store_rows.proofs.KeyTests.{same_name}
use Rattle.agv_store_ask.proofs.LoadAnswers.{again, as_many}

-- ---- jobs

-- the entries of the jobs for a load, or to a station, in a phase
abbrev pub is_for : List ℕ → Phase → List ℕ × JobRow → Bool
is_for load one job = pointwise nat_eq job.1.load load && is_in_phase one job.1

abbrev pub is_to : List ℕ → Phase → List ℕ × JobRow → Bool
is_to station one job = pointwise nat_eq job.1.target station && is_in_phase one job.1

phase_is : (one other : Phase) → pointwise nat_eq (phase_name other) (phase_name one) ≡ true → is_live one ≡ true → is_live other ≡ true
phase_is phase.Waiting phase.Waiting is live = refl
phase_is phase.Waiting phase.Riding is live = refl
phase_is phase.Waiting phase.Done is live = absurd (cc is)
phase_is phase.Waiting phase.Stopped is live = absurd (cc is)
phase_is phase.Riding phase.Waiting is live = refl
phase_is phase.Riding phase.Riding is live = refl
phase_is phase.Riding phase.Done is live = absurd (cc is)
phase_is phase.Riding phase.Stopped is live = absurd (cc is)
phase_is phase.Done other is live = absurd (cc live)
phase_is phase.Stopped other is live = absurd (cc live)

-- a job is live where it waits or rides
live_either : (one : Phase) (named : Bool)
    → (is_live one && named) ≡ ((named && pointwise nat_eq (phase_name one) (phase_name phase.Waiting)) || (named && pointwise nat_eq (phase_name one) (phase_name phase.Riding)))
live_either phase.Waiting true = refl
live_either phase.Waiting false = refl
live_either phase.Riding true = refl
live_either phase.Riding false = refl
live_either phase.Done true = refl
live_either phase.Done false = refl
live_either phase.Stopped true = refl
live_either phase.Stopped false = refl

live_counts : (one : Phase) (named : Bool)
    → cond (is_live one && named) 1 0 ≡ cond (named && pointwise nat_eq (phase_name one) (phase_name phase.Waiting)) 1 0 + cond (named && pointwise nat_eq (phase_name one) (phase_name phase.Riding)) 1 0
live_counts phase.Waiting true = refl
live_counts phase.Waiting false = refl
live_counts phase.Riding true = refl
live_counts phase.Riding false = refl
live_counts phase.Done true = refl
live_counts phase.Done false = refl
live_counts phase.Stopped true = refl
live_counts phase.Stopped false = refl

rows_if : {A : Type 0} (f : A → Row) (o : Option A) → map f (listed o) ≡ row_if f o
rows_if f None = refl
rows_if f (Some a) = refl

first_key : {K X : Type 0} (told : Row → Option (K × X)) (f : K × X → Row) (o : Option (K × X)) → ((e : K × X) → o ≡ Some e → told (f e) ≡ Some e) → first_key_in told (row_if f o) ≡ Ok (option_map (λ (e : K × X). e.0) o)
first_key told f None back = refl
first_key told f (Some e) back = ap key_of (back e refl)

module _ (world : World) (lawful : IsLawful desk_seats world) where
  abbrev lists : List (List Row)
  lists = rows_of world

  its_own : TellRows lists (maps_of world)
  its_own = alike_itself lists

  -- ---- jobs to a station

  pub counts_jobs_to : (station : List ℕ) (one : Phase) (values : Row) → values ≡ name_and_phase station one
      → length (rows_counted counted.TargetJobs values lists) ≡ count_by (is_to station one) (finite.entries world.jobs)
  counts_jobs_to station one values is =
      ap (λ v. length (rows_counted counted.TargetJobs v lists)) is
      ∙ as_many (λ (job : List ℕ × JobRow). job_columns job.0 job.1) (is_to station one) (finite.entries world.jobs) _ ((shown_asked lists (maps_of world) its_own).jobs_to station one)

  pub counts_reserved : (station : List ℕ) → reserved world station ≡ count_by (is_to station phase.Waiting) (finite.entries world.jobs) + count_by (is_to station phase.Riding) (finite.entries world.jobs)
  unfolding reserved
  counts_reserved station = counts_add (λ (job : List ℕ × JobRow). is_live_to station job.1) (is_to station phase.Waiting) (is_to station phase.Riding)
      (λ job. live_counts job.1.phase (pointwise nat_eq job.1.target station)) (finite.entries world.jobs)

  few : (all one other : ℕ) → all ≤ 1000000 → all ≡ one + other → min (one + other) (2 ^ 64 - 1) ≡ all
  few all one other small is = omega arith

  pub reserved_in_all : (station : List ℕ) (waiting riding : ℕ) → waiting ≡ count_by (is_to station phase.Waiting) (finite.entries world.jobs) → riding ≡ count_by (is_to station phase.Riding) (finite.entries world.jobs)
      → min (waiting + riding) (2 ^ 64 - 1) ≡ reserved world station
  unfolding reserved
  reserved_in_all station waiting riding one two =
      let below = count_by-le-length (λ (job : List ℕ × JobRow). is_live_to station job.1) (finite.entries world.jobs) in
      let short = finite.len-entries world.jobs in
      let kept = lawful.limits.few_jobs in
      few (reserved world station) waiting riding (at_most _ _ _ below short kept) (counts_reserved station ∙ ap₂ ◌+◌ (sym one) (sym two))
    where
      at_most : (a b c : ℕ) → a ≤ b → c ≡ b → c ≤ 1000000 → a ≤ 1000000
      at_most a b c p e q = omega arith

  -- ---- the live job of a load

  unique : (load : List ℕ) (p : List ℕ × JobRow → Bool) → ((e : List ℕ × JobRow) → p e ≡ true → (is_live e.1.phase ≡ true) × (e.1.load ≡ load)) → (a b : List ℕ × JobRow) → finite.get world.jobs a.0 ≡ Some a.1 → finite.get world.jobs b.0 ≡ Some b.1
      → p a ≡ true → p b ≡ true → a.0 ≡ b.0
  unique load p live a b is also one two =
      let first = live a one in
      let second = live b two in
      lawful.jobs.one_job a.0 b.0 a.1 b.1 is also first.0 second.0 (first.1 ∙ sym second.1)

  live_one : (load : List ℕ) (one : Phase) → is_live one ≡ true → (e : List ℕ × JobRow) → is_for load one e ≡ true → (is_live e.1.phase ≡ true) × (e.1.load ≡ load)
  live_one load one live e is =
      let both = and_parts _ _ is in
      (phase_is one e.1.phase both.1 live, (same_name e.1.load load).0 both.0)

  pub tells_job_in : (load : List ℕ) (one : Phase) → is_live one ≡ true → (values : Row) → values ≡ name_and_phase load one → (rows : List Row) → IsPermutation (rows_asked by.LoadJobs values lists) rows
      → (r : Result (Option (List ℕ)) OpenFault) → r ≡ first_key_in job_in rows → Follows r (λ job. job ≡ option_map (λ (e : List ℕ × JobRow). e.0) (find (is_for load one) (finite.entries world.jobs)))
  tells_job_in load one live values is rows shown r given =
      let columns : List ℕ × JobRow → Row = λ job. job_columns job.0 job.1 in
      let es = finite.entries world.jobs in
      let perm = again ((shown_asked lists (maps_of world) its_own).jobs_of load one) (subst (λ v. IsPermutation (rows_asked by.LoadJobs v lists) rows) is shown) in
      let few = ap (map columns) (one_passes nat_list_cmp_total world.jobs (is_for load one) (unique load (is_for load one) (live_one load one live))) ∙ rows_if columns (find (is_for load one) es) in
      let alone = only columns (find (is_for load one) es) rows (subst (λ l. IsPermutation l rows) few perm) in
      let so : r ≡ Ok (option_map (λ (e : List ℕ × JobRow). e.0) (find (is_for load one) es)) =
      given ∙ ap (first_key_in job_in) alone ∙ first_key job_in columns (find (is_for load one) es) (λ e found.
      let at = (found_entry nat_list_cmp_total world.jobs (is_for load one) e found).0 in
      job_kept e.0 e.1 (lawful.names.jobs_named e.0 e.1 at) (job_value world lawful e.0 e.1 at)) in
      subst (λ q. Follows q (λ job. job ≡ option_map (λ (e : List ℕ × JobRow). e.0) (find (is_for load one) es))) (sym so) refl

  pub live_job : (load : List ℕ) → job_of world load ≡ option_or (option_map (λ (e : List ℕ × JobRow). e.0) (find (is_for load phase.Waiting) (finite.entries world.jobs))) (option_map (λ (e : List ℕ × JobRow). e.0) (find (is_for load phase.Riding) (finite.entries world.jobs)))
  unfolding job_of
  live_job load =
      one_by_either nat_list_cmp_total world.jobs (λ (job : List ℕ × JobRow). is_live_for load job.1)
      (unique load (λ (job : List ℕ × JobRow). is_live_for load job.1) (λ e is. let both = and_parts _ _ is in (both.0, (same_name e.1.load load).0 both.1)))
      (is_for load phase.Waiting) (is_for load phase.Riding) (λ job. live_either job.1.phase (pointwise nat_eq job.1.load load))
