-- A map of new places has, in the order of the loads' names, just the loads that move.
use Rattle.std.proofs.Common.{◌≡◌, ℕ, Bool, true, false, cond, ◌&&◌, ◌||◌, T, nat_eq, Option, Some, None, Ordering, is_lt, is_eq, Less, Equal, Greater, List, [], ◌∷◌, filter_map, refl, sym, ap, ◌∙◌}
use Rattle.std.specs.Cmp.Lexicographic.{pointwise}
use Rattle.std.specs.FinMap as map
use Rattle.std.specs.FinMap.Entries.{find, is_sorted, below_all, same_entries}
use Rattle.std.specs.List.{AllByRecursion, list_any, cons_option}
use Rattle.std.specs.Option.{option_map, option_and_then}
use Rattle.std.specs.Ordering.{eq_by_cmp}
use Rattle.std.proofs.Math.Bool.{or_assoc}
use Rattle.std.proofs.lemmas.Bool.{false≢true}
use Rattle.agv_header.specs.Name.{name_cmp}
use Rattle.agv_stock.specs.declared.place.Place.{Place}
use Rattle.agv_world_core.proofs.lists.Orders.{names_total, names_apart}
use Rattle.agv_desk.specs.CountParts.{with_new_place, settled}
use Rattle.agv_desk.specs.StocktakeSteps.{new_place}
use Rattle.agv_desk.proofs.lists.SameNames.{same_name, tie_turned}

abbrev pub Places : Type 0
Places = map.FinMap name_cmp Place

abbrev pub Loads : Type 0
Loads = List (List ℕ × Place)

-- ---- the loads that move, of a list in the order of names
abbrev pub entry_by : (List ℕ → Place → Option Place) → List ℕ × Place → Option (List ℕ × Place)
entry_by goes load = option_map (λ (to : Place). (load.0, to)) (goes load.0 load.1)

module _ (goes : List ℕ → Place → Option Place) where
  abbrev pub moved : Loads → Loads
  moved loads = filter_map (entry_by goes) loads

  first : (a b : Bool) → T (a && b) → T a
  first true b p = tt
  first false b p = p

  second : (a b : Bool) → T (a && b) → T b
  second true b p = p
  second false b p = absurd p

  both : (a b : Bool) → T a → T b → T (a && b)
  both true b p q = q
  both false b p q = p

  below_moved : (q : List ℕ) (loads : Loads) → T (below_all name_cmp q loads) → T (below_all name_cmp q (moved loads))
  below_moved q [] h = tt
  below_moved q (e ∷ loads) h =
      let rest = below_moved q loads (second _ _ h) in
      elim (goes e.0 e.1) as (λ o. T (below_all name_cmp q (cons_option (option_map (λ (to : Place). (e.0, to)) o) (moved loads)))) [
        | None ↦ rest
        | Some to ↦ both _ _ (first _ _ h) rest
      ]

  pub sorted_moved : (loads : Loads) → T (is_sorted name_cmp loads) → T (is_sorted name_cmp (moved loads))
  sorted_moved [] h = tt
  sorted_moved (e ∷ loads) h =
      let rest = sorted_moved loads (second _ _ h) in
      elim (goes e.0 e.1) as (λ o. T (is_sorted name_cmp (cons_option (option_map (λ (to : Place). (e.0, to)) o) (moved loads)))) [
        | None ↦ rest
        | Some to ↦ both _ _ (below_moved e.0 loads (first _ _ h)) rest
      ]

  less : (o : Ordering) → T (is_lt o) → is_eq o ≡ false
  less Less p = refl
  less Equal p = absurd p
  less Greater p = absurd p

  pub find_below : (q : List ℕ) (loads : Loads) → T (below_all name_cmp q loads) → find name_cmp q loads ≡ None
  find_below q [] h = refl
  find_below q (e ∷ loads) h = ap (λ b. cond b (Some e.1) (find name_cmp q loads)) (less _ (first _ _ h)) ∙ find_below q loads (second _ _ h)

  -- what the list has at a name
  pub find_moved : (loads : Loads) → T (is_sorted name_cmp loads) → (q : List ℕ) → find name_cmp q (moved loads) ≡ option_and_then (goes q) (find name_cmp q loads)
  find_moved [] h q = refl
  find_moved (e ∷ loads) h q =
      let rest = find_moved loads (second _ _ h) in
      let kept : Option Place → Loads = λ o. cons_option (option_map (λ (to : Place). (e.0, to)) o) (moved loads) in
      elim (eq_by_cmp name_cmp q e.0) as (λ b. eq_by_cmp name_cmp q e.0 ≡ b → find name_cmp q (kept (goes e.0 e.1)) ≡ option_and_then (goes q) (cond b (Some e.1) (find name_cmp q loads))) [
        | true ↦ λ same.
            let is : e.0 ≡ q = same_name e.0 q (sym (tie_turned q e.0) ∙ same) in
            let none : find name_cmp q (moved loads) ≡ None = rest q ∙ ap (option_and_then (goes q)) (ap (λ k. find name_cmp k loads) (sym is) ∙ find_below e.0 loads (first _ _ h)) in
            elim (goes e.0 e.1) as (λ o. goes e.0 e.1 ≡ o → find name_cmp q (kept o) ≡ goes q e.1) [
              | None ↦ λ goes_none. none ∙ sym goes_none ∙ ap (λ k. goes k e.1) is
              | Some to ↦ λ goes_to. ap (λ b. cond b (Some to) (find name_cmp q (moved loads))) same ∙ sym goes_to ∙ ap (λ k. goes k e.1) is
            ] refl
        | false ↦ λ other.
            elim (goes e.0 e.1) as (λ o. find name_cmp q (kept o) ≡ option_and_then (goes q) (find name_cmp q loads)) [
              | None ↦ rest q
              | Some to ↦ ap (λ b. cond b (Some to) (find name_cmp q (moved loads))) other ∙ rest q
            ]
      ] refl

  -- a map that has at each name where the load goes lists just the loads that move
  pub moves_listed : (places new : Places) → ((q : List ℕ) → map.get new q ≡ option_and_then (goes q) (map.get places q)) → map.entries new ≡ moved (map.entries places)
  moves_listed places new each =
      same_entries name_cmp names_total names_apart (map.entries new) (moved (map.entries places)) (map.entries_sorted new) (sorted_moved _ (map.entries_sorted places))
      (λ q. sym (map.get-entries new q) ∙ each q ∙ ap (option_and_then (goes q)) (map.get-entries places q) ∙ sym (find_moved _ (map.entries_sorted places) q))

-- ---- loads of which it is known where they are, one after another
abbrev pub is_in : List ℕ → Loads → Bool
is_in q loads = list_any (λ (load : List ℕ × Place). pointwise nat_eq load.0 q) loads

right_false : (b : Bool) → b ≡ (b || false)
right_false true = refl
right_false false = refl

none_either : (t : Bool) (o : Option Place) → o ≡ None → cond t o None ≡ None
none_either true o e = e
none_either false o e = refl

-- a load that stays
unplaced : (t e : Bool) (o : Option Place) → (e ≡ true → o ≡ None) → cond t o None ≡ cond (t || e) o None
unplaced true e o none = refl
unplaced false true o none = sym (none refl)
unplaced false false o none = refl

-- a load that moves
replaced : (t e : Bool) (o : Option Place) (to : Place) → (e ≡ true → o ≡ Some to) → cond e (Some to) (cond t o None) ≡ cond (t || e) o None
replaced true true o to goes = sym (goes refl)
replaced true false o to goes = refl
replaced false true o to goes = sym (goes refl)
replaced false false o to goes = refl

module _ (places : Places) (counted : List ℕ → Bool) (found : map.FinMap name_cmp (List ℕ)) where
  abbrev pub goes : List ℕ → Place → Option Place
  goes q at = new_place counted (map.get found q) at

  abbrev pub goes_from : List ℕ → Option Place
  goes_from q = option_and_then (goes q) (map.get places q)

  abbrev pub AreThere : Loads → Type 0
  AreThere loads = AllByRecursion (λ (load : List ℕ × Place). map.get places load.0 ≡ Some load.1) loads

  -- the map has where the load goes for those that pass the test
  abbrev pub HasThose : (List ℕ → Bool) → Places → Type 0
  HasThose test new = (q : List ℕ) → map.get new q ≡ cond (test q) (goes_from q) None

  placed_one : (test : List ℕ → Bool) (new : Places) (load : List ℕ) (at : Place) → map.get places load ≡ Some at → HasThose test new
      → HasThose (λ q. test q || pointwise nat_eq load q) (with_new_place new load (goes load at))
  placed_one test new load at there has q =
      let here : pointwise nat_eq load q ≡ true → goes load at ≡ goes_from q =
      λ e. ap (option_and_then (goes load)) (sym there) ∙ ap goes_from (same_name load q e) in
      elim (goes load at) as (λ o. (pointwise nat_eq load q ≡ true → o ≡ goes_from q) → map.get (with_new_place new load o) q ≡ cond (test q || pointwise nat_eq load q) (goes_from q) None) [
        | None ↦ λ is. has q ∙ unplaced (test q) (pointwise nat_eq load q) (goes_from q) (λ e. sym (is e))
        | Some to ↦ λ is.
            map.get-insert names_total new load to q
            ∙ ap (λ b. cond b (Some to) (map.get new q)) (tie_turned q load)
            ∙ ap (cond (pointwise nat_eq load q) (Some to)) (has q)
            ∙ replaced (test q) (pointwise nat_eq load q) (goes_from q) to (λ e. sym (is e))
      ] here

  pub settled_has : (loads : Loads) (test : List ℕ → Bool) (new : Places) → AreThere loads → HasThose test new → HasThose (λ q. test q || is_in q loads) (settled counted found new loads)
  unfolding settled
  settled_has [] test new there has q = has q ∙ ap (λ b. cond b (goes_from q) None) (right_false (test q))
  settled_has (load ∷ loads) test new there has q =
      settled_has loads (λ k. test k || pointwise nat_eq load.0 k) (with_new_place new load.0 (goes load.0 load.1)) there.1 (placed_one test new load.0 load.1 there.0 has) q
      ∙ ap (λ b. cond b (goes_from q) None) (or_assoc (test q) (pointwise nat_eq load.0 q) (is_in q loads))

  no_places : HasThose (λ _. false) map.empty
  no_places q = map.get-empty name_cmp q

  covered : (b : Bool) (o : Option Place) → ((to : Place) → o ≡ Some to → b ≡ true) → cond b o None ≡ o
  covered true o all = refl
  covered false None all = refl
  covered false (Some to) all = absurd (false≢true (all to refl))

  -- two lists that have each load which moves
  pub settled_both : (one other : Loads) → AreThere one → AreThere other → ((q : List ℕ) (to : Place) → goes_from q ≡ Some to → (is_in q one || is_in q other) ≡ true)
      → (q : List ℕ) → map.get (settled counted found (settled counted found map.empty one) other) q ≡ goes_from q
  settled_both one other there_one there_other all q =
      settled_has other (λ k. false || is_in k one) _ there_other (settled_has one (λ _. false) map.empty there_one no_places) q
      ∙ covered (is_in q one || is_in q other) (goes_from q) (all q)
