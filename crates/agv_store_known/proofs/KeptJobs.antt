-- The live jobs that are kept beside the tables: that they stay the live ones once rows were written, and what their entries are.
use Rattle.std.proofs.Common.{◌≡◌, ◌&&◌, ℕ, Bool, true, false, cond, if◌then◌else◌, T, List, [], ◌∷◌, filter, Option, None, Some, Ordering, Less, Equal, Greater, is_eq, is_lt, refl, sym, ap, subst, ◌∙◌}
use Rattle.std.specs.Cmp.{Equal-is}
use Rattle.std.specs.FinMap as finite
use Rattle.std.specs.FinMap.Entries.{below_all, find, find-where_key, is_sorted, is_sorted-where_key, same_entries, where_key}
use Rattle.std.specs.List.{AllByRecursion}
use Rattle.std.specs.Option.{option_or}
use Rattle.std.specs.Ordering.{eq_by_cmp}
use Rattle.std.proofs.lemmas.Option.{same_Some}
use Rattle.agv_header.specs.Name.{name_cmp}
use Rattle.agv_stock.specs.Phase.{is_live}
use Rattle.agv_world_core.specs.Changes.{change}
use Rattle.agv_world_core.specs.Maps.{Maps}
use Rattle.agv_world_core.specs.declared.change.Change.{Change}
use Rattle.agv_world_core.specs.declared.change.Change.TheVariants as row
use Rattle.agv_world_core.specs.declared.row.JobRow.{JobRow}
use Rattle.agv_world_core.proofs.lists.Entries.{entries_found}
use Rattle.agv_world_core.proofs.lists.Orders.{names_apart, names_total}
use Rattle.agv_store_known.specs.KeptJobs.{AreJobs, AreLive, JobsOf, if_live}

-- ---- rows that are written

module _ (live jobs : JobsOf) (name : List ℕ) (job : JobRow) (are : AreLive live jobs) where
  -- a live job is put
  pub live_put : is_live job.phase ≡ true → AreLive (finite.insert live name job) (finite.insert jobs name job)
  live_put lives other =
      finite.get-insert names_total live name job other
      ∙ elim (eq_by_cmp name_cmp other name) as (λ b. cond b (Some job) (finite.get live other) ≡ if_live (cond b (Some job) (finite.get jobs other))) [
        | true ↦ sym (ap (λ b. if b then Some job else None) lives)
        | false ↦ are other
      ]
      ∙ ap if_live (sym (finite.get-insert names_total jobs name job other))

  -- one that has ended is taken out
  pub ended_taken : is_live job.phase ≡ false → AreLive (finite.remove live name) (finite.insert jobs name job)
  ended_taken ended other =
      finite.get-remove names_total live name other
      ∙ elim (eq_by_cmp name_cmp other name) as (λ b. cond b None (finite.get live other) ≡ if_live (cond b (Some job) (finite.get jobs other))) [
        | true ↦ sym (ap (λ b. if b then Some job else None) ended)
        | false ↦ are other
      ]
      ∙ ap if_live (sym (finite.get-insert names_total jobs name job other))

-- a row that is none of a job leaves them
pub jobs_stay : (jobs : Option JobsOf) (one : Change) → ((name : List ℕ) (job : JobRow) → one ≡ row.Job name job → ⊥) → (maps : Maps) → AreJobs jobs maps → AreJobs jobs (change maps one)
jobs_stay None one none maps are = tt
jobs_stay (Some live) (row.Node id) none maps are = are
jobs_stay (Some live) (row.Edge id ends) none maps are = are
jobs_stay (Some live) (row.Station id site) none maps are = are
jobs_stay (Some live) (row.Vehicle key vehicle) none maps are = are
jobs_stay (Some live) (row.Trip order trip) none maps are = are
jobs_stay (Some live) (row.Leg key edge) none maps are = are
jobs_stay (Some live) (row.Load id to) none maps are = are
jobs_stay (Some live) (row.Job name job) none maps are = absurd (none name job refl)
jobs_stay (Some live) (row.Hold thing key) none maps are = are
jobs_stay (Some live) (row.Used key) none maps are = are

-- ---- all rows, one after the other

abbrev Rows : Type 0
Rows = List (List ℕ × JobRow)

-- the live jobs so far, and the rows of the others, in their order
pub record IsReading (live jobs : JobsOf) (rest : Rows) : Type 0 where
  done : JobsOf
  are : AreLive live done
  all : (name : List ℕ) → finite.get jobs name ≡ option_or (find name_cmp name rest) (finite.get done name)
  rising : T (is_sorted name_cmp rest)

or_none : {A : Type 0} (o : Option A) → option_or o None ≡ o
or_none None = refl
or_none (Some a) = refl

pub none_read : (jobs : JobsOf) → IsReading finite.empty jobs (finite.entries jobs)
none_read jobs = record {
  done = finite.empty;
  are = λ name. finite.get-empty name_cmp name ∙ ap if_live (sym (finite.get-empty name_cmp name));
  all = λ name. finite.get-entries jobs name ∙ sym (ap (option_or (find name_cmp name (finite.entries jobs))) (finite.get-empty name_cmp name) ∙ or_none _);
  rising = finite.entries_sorted jobs;
}

left : (a b : Bool) → T (a && b) → T a
left true b p = tt
left false b p = p

right : (a b : Bool) → T (a && b) → T b
right true b p = p
right false b p = absurd p

less : (o : Ordering) → T (is_lt o) → o ≡ Less
less Less p = refl
less Equal p = absurd p
less Greater p = absurd p

-- a name below all is none of theirs
find_below : (name : List ℕ) (es : Rows) → T (below_all name_cmp name es) → find name_cmp name es ≡ None
find_below name [] below = refl
find_below name (e ∷ es) below = ap (λ o. cond (is_eq o) (Some e.1) (find name_cmp name es)) (less _ (left _ _ below)) ∙ find_below name es (right _ _ below)

module _ (jobs : JobsOf) (e : List ℕ × JobRow) (rest : Rows) (rising : T (is_sorted name_cmp (e ∷ rest))) where
  -- a name that ties with the first is none of the others
  tied_first : (name : List ℕ) → eq_by_cmp name_cmp name e.0 ≡ true → find name_cmp name rest ≡ None
  tied_first name tied =
      let same : name ≡ e.0 = names_apart name e.0 ((Equal-is (name_cmp name e.0)).0 tied) in
      find_below name rest (subst (λ k. T (below_all name_cmp k rest)) (sym same) (left _ _ rising))

  one_over : (name : List ℕ) (was : Option JobRow) (b : Bool) → eq_by_cmp name_cmp name e.0 ≡ b
      → option_or (cond b (Some e.1) (find name_cmp name rest)) was ≡ option_or (find name_cmp name rest) (cond b (Some e.1) was)
  one_over name was true tied = sym (ap (λ o. option_or o (Some e.1)) (tied_first name tied))
  one_over name was false untied = refl

-- one row more
pub one_read : (live more jobs : JobsOf) (e : List ℕ × JobRow) (rest : Rows) → ((done : JobsOf) → AreLive live done → AreLive more (finite.insert done e.0 e.1)) → IsReading live jobs (e ∷ rest) → IsReading more jobs rest
one_read live more jobs e rest put so_far = record {
  done = finite.insert so_far.done e.0 e.1;
  are = put so_far.done so_far.are;
  all = λ name.
      so_far.all name
      ∙ one_over jobs e rest so_far.rising name (finite.get so_far.done name) (eq_by_cmp name_cmp name e.0) refl
      ∙ ap (option_or (find name_cmp name rest)) (sym (finite.get-insert names_total so_far.done e.0 e.1 name));
  rising = right _ _ so_far.rising;
}

-- all of them
pub all_read : (live jobs : JobsOf) → IsReading live jobs [] → AreLive live jobs
all_read live jobs read name = read.are name ∙ ap if_live (sym (read.all name))

-- what is kept is the live jobs
pub kept_live : (kept : Option JobsOf) (live : JobsOf) (maps : Maps) → kept ≡ Some live → AreJobs kept maps → AreLive live maps.jobs
kept_live None live maps is are = absurd (cc is)
kept_live (Some own) live maps is are = subst (λ (m : JobsOf). AreLive m maps.jobs) (same_Some own live is) are

-- ---- the entries

-- the job of the entry is live
abbrev pub is_live_entry : List ℕ × JobRow → Bool
is_live_entry entry = is_live entry.1.phase

-- there is a row of a live job
abbrev lives : Option JobRow → Bool
lives None = false
lives (Some job) = is_live job.phase

if_lives : (o : Option JobRow) → if_live o ≡ cond (lives o) o None
if_lives None = refl
if_lives (Some job) = refl

by_name : (jobs : JobsOf) (es : Rows) → AllByRecursion (λ (e : List ℕ × JobRow). finite.get jobs e.0 ≡ Some e.1) es → where_key name_cmp (λ name. lives (finite.get jobs name)) es ≡ filter is_live_entry es
by_name jobs [] found = refl
by_name jobs (e ∷ es) found = λ i. cond (lives (found.0 i)) (e ∷ by_name jobs es found.1 i) (by_name jobs es found.1 i)

-- the live jobs are those of the jobs that are live, in the same order
pub live_entries : (live jobs : JobsOf) → AreLive live jobs → finite.entries live ≡ filter is_live_entry (finite.entries jobs)
live_entries live jobs are =
    let test : List ℕ → Bool = λ name. lives (finite.get jobs name) in
    let es = finite.entries jobs in
    same_entries name_cmp names_total names_apart (finite.entries live) (where_key name_cmp test es) (finite.entries_sorted live) (is_sorted-where_key name_cmp test es (finite.entries_sorted jobs)) (λ name.
    sym (finite.get-entries live name)
    ∙ are name
    ∙ if_lives (finite.get jobs name)
    ∙ ap (λ o. cond (test name) o None) (finite.get-entries jobs name)
    ∙ sym (find-where_key name_cmp test name (λ other tied. ap test (sym (names_apart name other tied))) es))
    ∙ by_name jobs es (entries_found names_total jobs)
