-- What the test of the live jobs of loads says: no load has two.
use Rattle.std.proofs.Common.{◌≡◌, ◌↔◌, ◌&&◌, ◌||◌, not, ℕ, Bool, true, false, cond, T, List, [], ◌∷◌, None, Some, Ordering, refl, sym, ap, ◌∙◌}
use Rattle.std.specs.declared.cmp.Ordering.TheVariants.{Less, Equal, Greater}
use Rattle.std.specs.Cmp.{tied_itself}
use Rattle.std.specs.FinMap as finite
use Rattle.std.specs.FinMap.Entries.{below_all, find, is_sorted}
use Rattle.std.specs.FinSet as set
use Rattle.std.specs.Ordering.{eq_by_cmp, is_eq, is_lt}
use Rattle.std.proofs.lemmas.Bool.{and_from, and_parts, false_from_ne_true, true≢false}
use Rattle.agv_header.specs.Name.{name_cmp}
use Rattle.agv_stock.specs.Phase.{is_live}
use Rattle.agv_world_lawful.specs.LoadTests.{has_one_job_each, is_each_new}
use Rattle.agv_world_core.specs.declared.row.JobRow.{JobRow}
use Rattle.agv_world_core.specs.declared.world.World.{World as Tables}
use Rattle.agv_world_core.proofs.lists.Entries.{is_same, no_more, same_Some}
use Rattle.agv_world_core.proofs.lists.Orders.{names_apart, names_total}

abbrev Entry : Type 0
Entry = List ℕ × JobRow

both_of : (a b : Bool) → T (a && b) → T a × T b
both_of true b p = (tt, p)
both_of false b p = absurd p

less : (o : Ordering) → T (is_lt o) → is_eq o ≡ false
less Less p = refl
less Equal p = absurd p
less Greater p = absurd p

find-below : (q : List ℕ) (es : List Entry) → T (below_all name_cmp q es) → find name_cmp q es ≡ None
find-below q [] below = refl
find-below q (e ∷ es) below = ap (λ b. cond b (Some e.1) (find name_cmp q es)) (less _ (both_of _ _ below).0) ∙ find-below q es (both_of _ _ below).1

-- a job among these entries, live
abbrev Has : List Entry → List ℕ → JobRow → Type 0
Has es job row = find name_cmp job es ≡ Some row

-- no load has two live jobs among these entries
abbrev OneEach : List Entry → Type 0
OneEach es = (one other : List ℕ) (row further : JobRow) → Has es one row → Has es other further → is_live row.phase ≡ true → is_live further.phase ≡ true → row.load ≡ further.load → one ≡ other

-- no load of a live job is among those noted
abbrev AllNew : set.FinSet name_cmp → List Entry → Type 0
AllNew noted es = (job : List ℕ) (row : JobRow) → Has es job row → is_live row.phase ≡ true → set.contains noted row.load ≡ false

-- ---- an entry and those after it

-- the job is that of the first entry, or among the others
cases_Has : (e : Entry) (es : List Entry) (job : List ℕ) (row : JobRow) {P : Type 0} → Has (e ∷ es) job row → (job ≡ e.0 → e.1 ≡ row → P) → (Has es job row → P) → P
cases_Has e es job row {P} has first later =
    elim (eq_by_cmp name_cmp job e.0) as (λ b. eq_by_cmp name_cmp job e.0 ≡ b → cond b (Some e.1) (find name_cmp job es) ≡ Some row → P) [
      | true ↦ λ tied is. first (is_same names_apart job e.0 tied) (same_Some e.1 row is)
      | false ↦ λ tied is. later is
    ] refl has

first_Has : (e : Entry) (es : List Entry) → Has (e ∷ es) e.0 e.1
first_Has e es = ap (λ o. cond (is_eq o) (Some e.1) (find name_cmp e.0 es)) (tied_itself names_total e.0)

later_Has : (e : Entry) (es : List Entry) → find name_cmp e.0 es ≡ None → (job : List ℕ) (row : JobRow) → Has es job row → Has (e ∷ es) job row
later_Has e es none job row has =
    elim (eq_by_cmp name_cmp job e.0) as (λ b. eq_by_cmp name_cmp job e.0 ≡ b → cond b (Some e.1) (find name_cmp job es) ≡ Some row) [
      | true ↦ λ tied. absurd (no_more row (sym none ∙ ap (λ k. find name_cmp k es) (sym (is_same names_apart job e.0 tied)) ∙ has))
      | false ↦ λ tied. has
    ] refl

own_name : (noted : set.FinSet name_cmp) (load : List ℕ) → set.contains (set.insert noted load) load ≡ true
own_name noted load = set.contains-insert names_total noted load load ∙ ap (λ o. is_eq o || set.contains noted load) (tied_itself names_total load)

other_name : (noted : set.FinSet name_cmp) (load other : List ℕ) → set.contains (set.insert noted load) other ≡ false → set.contains noted other ≡ false
other_name noted load other out = by (eq_by_cmp name_cmp other load) (set.contains noted other) (sym (set.contains-insert names_total noted load other) ∙ out)
  where
    by : (a b : Bool) → (a || b) ≡ false → b ≡ false
    by true b is = cc
    by false b is = is

new_name : (noted : set.FinSet name_cmp) (load other : List ℕ) → (other ≡ load → ⊥) → set.contains noted other ≡ false → set.contains (set.insert noted load) other ≡ false
new_name noted load other apart out =
    set.contains-insert names_total noted load other
    ∙ ap (λ b. b || set.contains noted other) (false_from_ne_true (eq_by_cmp name_cmp other load) (λ tied. apart (is_same names_apart other load tied)))
    ∙ out

-- ---- what the test says of the noted loads, and of the entries

live_parts : (b one other : Bool) {P : Type 0} → cond b one other ≡ true → (b ≡ true → one ≡ true → P) → (b ≡ false → other ≡ true → P) → P
live_parts true one other is live dead = live refl is
live_parts false one other is live dead = dead refl is

not_noted : (b : Bool) → not b ≡ true → b ≡ false
not_noted true is = cc
not_noted false is = refl

all_new : (noted : set.FinSet name_cmp) (es : List Entry) → is_each_new noted es ≡ true → AllNew noted es
all_new noted [] passed job row has live = absurd (no_more row has)
all_new noted (e ∷ es) passed job row has live =
    live_parts (is_live e.1.phase) (not (set.contains noted e.1.load) && is_each_new (set.insert noted e.1.load) es) (is_each_new noted es) passed
    (λ lives rest.
    let parts = and_parts (not (set.contains noted e.1.load)) (is_each_new (set.insert noted e.1.load) es) rest in
    cases_Has e es job row has
    (λ name same. ap (λ (r : JobRow). set.contains noted r.load) (sym same) ∙ not_noted _ parts.0)
    (λ later. other_name noted e.1.load row.load (all_new (set.insert noted e.1.load) es parts.1 job row later live)))
    (λ dead rest.
    cases_Has e es job row has
    (λ name same. absurd (true≢false (sym live ∙ ap (λ (r : JobRow). is_live r.phase) (sym same) ∙ dead)))
    (λ later. all_new noted es rest job row later live))

one_each : (noted : set.FinSet name_cmp) (es : List Entry) → is_each_new noted es ≡ true → OneEach es
one_each noted [] passed one other row further has too live also same = absurd (no_more row has)
one_each noted (e ∷ es) passed one other row further has too live also same =
    live_parts (is_live e.1.phase) (not (set.contains noted e.1.load) && is_each_new (set.insert noted e.1.load) es) (is_each_new noted es) passed
    (λ lives rest.
    let next = (and_parts (not (set.contains noted e.1.load)) (is_each_new (set.insert noted e.1.load) es) rest).1 in
    let clash : (job : List ℕ) (its : JobRow) → Has es job its → is_live its.phase ≡ true → its.load ≡ e.1.load → one ≡ other = λ job its later lives load.
    absurd (true≢false (sym (ap (set.contains (set.insert noted e.1.load)) load ∙ own_name noted e.1.load) ∙ all_new (set.insert noted e.1.load) es next job its later lives)) in
    cases_Has e es one row has
    (λ name is. cases_Has e es other further too
    (λ named its. name ∙ sym named)
    (λ later. clash other further later also (sym same ∙ ap (λ (r : JobRow). r.load) (sym is))))
    (λ later. cases_Has e es other further too
    (λ named its. clash one row later live (same ∙ ap (λ (r : JobRow). r.load) (sym its)))
    (λ later'. one_each (set.insert noted e.1.load) es next one other row further later later' live also same)))
    (λ dead rest.
    let never : (its : JobRow) → e.1 ≡ its → is_live its.phase ≡ true → one ≡ other = λ its is lives. absurd (true≢false (sym lives ∙ ap (λ (r : JobRow). is_live r.phase) (sym is) ∙ dead)) in
    cases_Has e es one row has
    (λ name is. never row is live)
    (λ later. cases_Has e es other further too
    (λ named its. never further its also)
    (λ later'. one_each noted es rest one other row further later later' live also same)))

each_new : (noted : set.FinSet name_cmp) (es : List Entry) → T (is_sorted name_cmp es) → OneEach es → AllNew noted es → is_each_new noted es ≡ true
each_new noted [] sorted one new = refl
each_new noted (e ∷ es) sorted one new =
    let parts = both_of _ _ sorted in
    let none : find name_cmp e.0 es ≡ None = find-below e.0 es parts.0 in
    let after : OneEach es = λ job other row further has too. one job other row further (later_Has e es none job row has) (later_Has e es none other further too) in
    elim (is_live e.1.phase) as (λ b. is_live e.1.phase ≡ b → cond b (not (set.contains noted e.1.load) && is_each_new (set.insert noted e.1.load) es) (is_each_new noted es) ≡ true) [
      | true ↦ λ lives.
          let fresh : AllNew (set.insert noted e.1.load) es = λ job row has live. new_name noted e.1.load row.load
          (λ same. let name : job ≡ e.0 = one job e.0 row e.1 (later_Has e es none job row has) (first_Has e es) live lives same in no_more row (sym none ∙ ap (λ k. find name_cmp k es) (sym name) ∙ has))
          (new job row (later_Has e es none job row has) live) in
          and_from (not (set.contains noted e.1.load)) (is_each_new (set.insert noted e.1.load) es) (ap not (new e.0 e.1 (first_Has e es) lives)) (each_new (set.insert noted e.1.load) es parts.1 after fresh)
      | false ↦ λ dead. each_new noted es parts.1 after (λ job row has. new job row (later_Has e es none job row has))
    ] refl

module _ (tables : Tables) where
  -- no load has two live jobs
  abbrev pub OneLiveJob : Type 0
  OneLiveJob = (one other : List ℕ) (row further : JobRow) → finite.get tables.jobs one ≡ Some row → finite.get tables.jobs other ≡ Some further → is_live row.phase ≡ true → is_live further.phase ≡ true → row.load ≡ further.load → one ≡ other

  pub one_job_told : (has_one_job_each tables ≡ true) ↔ OneLiveJob
  one_job_told =
      let at = λ (job : List ℕ). finite.get-entries tables.jobs job in (
        λ passed one other row further has too. one_each set.empty (finite.entries tables.jobs) passed one other row further (sym (at one) ∙ has) (sym (at other) ∙ too),
        λ one_job. each_new set.empty (finite.entries tables.jobs) (finite.entries_sorted tables.jobs)
            (λ one other row further has too. one_job one other row further (at one ∙ has) (at other ∙ too))
            (λ job row has live. set.contains-empty name_cmp row.load),
      )
