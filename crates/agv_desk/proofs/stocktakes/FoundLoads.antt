-- The loads of the rows are noted from row to row.
use Rattle.std.proofs.Common.{◌≡◌, ℕ, ◌+◌, ◌<◌, ◌≤◌, Bool, true, false, cond, ◌||◌, nat_eq, Option, Some, None, is_some, List, [], ◌∷◌, length, get_or, drop, filter_map, refl, sym, ap, ◌∙◌}
use Rattle.std.specs.Cmp.Lexicographic.{pointwise}
use Rattle.std.specs.FinMap as map
use Rattle.std.specs.List.{list_any}
use Rattle.std.proofs.lemmas.Bool.{false≢true}
use Rattle.std.proofs.lemmas.List.{at_drop_all, at_drop_more}
use Rattle.agv_header.specs.Name.{name_cmp}
use Rattle.agv_world_core.proofs.lists.Orders.{names_total, names_apart}
use Rattle.agv_desk.specs.CountParts.{AreFound, found_entry, found_in, noted_load, noted_anew}
use Rattle.agv_desk.specs.StocktakeSteps.{Row, found_at, has_load, has_twice}
use Rattle.agv_desk.proofs.lists.SameNames.{same_name, name_turned, tie_turned}

abbrev pub Found : Type 0
Found = map.FinMap name_cmp (List ℕ)

-- the loads that are noted after some rows more, if none is on two
abbrev pub noted_all : Found → List Row → Option Found
noted_all noted [] = Some noted
noted_all noted (row ∷ rows) = let more = noted_load noted row.0 row.1 in cond more.0 (noted_all more.1 rows) None

-- one of the rows has a load that is noted
abbrev is_noted : Found → Option (List ℕ) → Bool
is_noted noted None = false
is_noted noted (Some load) = is_some (map.get noted load)

abbrev one_noted : Found → List Row → Bool
one_noted noted rows = list_any (λ (row : Row). is_noted noted row.1) rows

-- what is noted, with the loads of the rows
abbrev with_entry : Found → Option (List ℕ × List ℕ) → Found
with_entry noted None = noted
with_entry noted (Some entry) = map.insert noted entry.0 entry.1

abbrev with_rows : Found → List Row → Found
with_rows noted [] = noted
with_rows noted (row ∷ rows) = with_entry (with_rows noted rows) (found_entry row.0 row.1)

abbrev first_of_two : Option (List ℕ) → Option (List ℕ) → Option (List ℕ)
first_of_two None other = other
first_of_two (Some one) other = Some one

get-with_rows : (noted : Found) (rows : List Row) (q : List ℕ) → map.get (with_rows noted rows) q ≡ first_of_two (found_at rows q) (map.get noted q)
get-with_rows noted [] q = refl
get-with_rows noted (row ∷ rows) q =
    elim row.1 as (λ load. map.get (with_entry (with_rows noted rows) (found_entry row.0 load)) q ≡ first_of_two (cond (has_load q load) (Some row.0) (found_at rows q)) (map.get noted q)) [
      | None ↦ get-with_rows noted rows q
      | Some load ↦
          map.get-insert names_total (with_rows noted rows) load row.0 q
          ∙ ap (λ b. cond b (Some row.0) (map.get (with_rows noted rows) q)) (tie_turned q load)
          ∙ ap (cond (pointwise nat_eq load q) (Some row.0)) (get-with_rows noted rows q)
          ∙ elim (pointwise nat_eq load q) as (λ b. cond b (Some row.0) (first_of_two (found_at rows q) (map.get noted q)) ≡ first_of_two (cond b (Some row.0) (found_at rows q)) (map.get noted q)) [ true ↦ refl | false ↦ refl ]
    ]

with_rows-none : (rows : List Row) → with_rows map.empty rows ≡ map.from_entries (filter_map (λ (row : Row). found_entry row.0 row.1) rows)
with_rows-none [] = refl
with_rows-none (row ∷ rows) =
    elim row.1 as (λ load. with_entry (with_rows map.empty rows) (found_entry row.0 load) ≡ map.from_entries (filter_map (λ (row : Row). found_entry row.0 row.1) ((row.0, load) ∷ rows))) [
      | None ↦ with_rows-none rows
      | Some load ↦ ap (λ m. map.insert m load row.0) (with_rows-none rows)
    ]

-- where the table has a load, it was found
pub get-found_in : (rows : List Row) (q : List ℕ) → map.get (found_in rows) q ≡ found_at rows q
unfolding found_in
get-found_in rows q =
    ap (λ m. map.get m q) (sym (with_rows-none rows))
    ∙ get-with_rows map.empty rows q
    ∙ ap (first_of_two (found_at rows q)) (map.get-empty name_cmp q)
    ∙ elim (found_at rows q) as (λ o. first_of_two o None ≡ o) [ None ↦ refl | Some station ↦ refl ]

-- ---- one load more
is_some-or : (b : Bool) (x : List ℕ) (o : Option (List ℕ)) → is_some (cond b (Some x) o) ≡ (b || is_some o)
is_some-or true x o = refl
is_some-or false x o = refl

regroup : (a b c d : Bool) → ((a || b) || (c || d)) ≡ ((a || c) || (b || d))
regroup true b c d = refl
regroup false true true d = refl
regroup false true false d = refl
regroup false false c d = refl

module _ (noted : Found) (load station : List ℕ) where
  noted_of : (other : Option (List ℕ)) → is_noted (map.insert noted load station) other ≡ (has_load load other || is_noted noted other)
  noted_of None = refl
  noted_of (Some name) =
      ap is_some (map.get-insert names_total noted load station name)
      ∙ ap (λ b. is_some (cond b (Some station) (map.get noted name))) (tie_turned name load ∙ name_turned load name)
      ∙ is_some-or (pointwise nat_eq name load) station (map.get noted name)

  one_noted_more : (rows : List Row) → one_noted (map.insert noted load station) rows ≡ (is_some (found_at rows load) || one_noted noted rows)
  one_noted_more [] = refl
  one_noted_more (row ∷ rows) =
      ap (λ b. b || one_noted (map.insert noted load station) rows) (noted_of row.1)
      ∙ ap (λ b. (has_load load row.1 || is_noted noted row.1) || b) (one_noted_more rows)
      ∙ regroup (has_load load row.1) (is_noted noted row.1) (is_some (found_at rows load)) (one_noted noted rows)
      ∙ ap (λ b. b || (is_noted noted row.1 || one_noted noted rows)) (sym (is_some-or (has_load load row.1) row.0 (found_at rows load)))

  exchanged : (here : Bool) (found old : Option (List ℕ)) → (here ≡ true → found ≡ None) → first_of_two found (cond here (Some station) old) ≡ cond here (Some station) (first_of_two found old)
  exchanged true found old none = ap (λ o. first_of_two o (Some station)) (none refl)
  exchanged false found old none = refl

  -- a load that is on none of the rows may be noted before them or after
  with_rows-insert : (rows : List Row) → found_at rows load ≡ None → with_rows (map.insert noted load station) rows ≡ map.insert (with_rows noted rows) load station
  with_rows-insert rows none =
      map.same_map names_total names_apart _ _ (λ q.
      get-with_rows _ rows q
      ∙ ap (first_of_two (found_at rows q)) (map.get-insert names_total noted load station q ∙ ap (λ b. cond b (Some station) (map.get noted q)) (tie_turned q load))
      ∙ exchanged (pointwise nat_eq load q) (found_at rows q) (map.get noted q) (λ e. ap (found_at rows) (sym (same_name load q e)) ∙ none)
      ∙ ap (cond (pointwise nat_eq load q) (Some station)) (sym (get-with_rows noted rows q))
      ∙ sym (map.get-insert names_total (with_rows noted rows) load station q ∙ ap (λ b. cond b (Some station) (map.get (with_rows noted rows) q)) (tie_turned q load)))

-- ---- all rows
abbrev noted_or : Found → List Row → Option Found
noted_or noted rows = cond (one_noted noted rows || has_twice rows) None (Some (with_rows noted rows))

neither : (one : Bool) (rest : Option Found) → None ≡ cond (one || true) None rest
neither true rest = refl
neither false rest = refl

noted_all-is : (noted : Found) (rows : List Row) → noted_all noted rows ≡ noted_or noted rows
noted_all-is noted [] = refl
noted_all-is noted (row ∷ rows) =
    elim row.1 as (λ load. noted_all noted ((row.0, load) ∷ rows) ≡ noted_or noted ((row.0, load) ∷ rows)) [
      | None ↦ noted_all-is noted rows
      | Some load ↦
          let one = one_noted noted rows in
          let after = map.insert noted load row.0 in
          let next : (Bool × Found) → Option Found = λ more. cond more.0 (noted_all more.1 rows) None in
          elim (map.get noted load) as (λ o. next (noted_anew noted row.0 load o) ≡ cond ((is_some o || one) || cond (is_some (found_at rows load)) true (has_twice rows)) None (Some (map.insert (with_rows noted rows) load row.0))) [
            | Some was ↦ refl
            | None ↦
                noted_all-is after rows
                ∙ ap (λ b. cond (b || has_twice rows) None (Some (with_rows after rows))) (one_noted_more noted load row.0 rows)
                ∙ elim (found_at rows load) as (λ f. found_at rows load ≡ f → cond ((is_some f || one) || has_twice rows) None (Some (with_rows after rows)) ≡ cond (one || cond (is_some f) true (has_twice rows)) None (Some (map.insert (with_rows noted rows) load row.0))) [
                  | None ↦ λ none. ap (λ m. cond (one || has_twice rows) None (Some m)) (with_rows-insert noted load row.0 rows none)
                  | Some other ↦ λ again. neither one _
                ] refl
          ]
    ]

none_noted : (rows : List Row) → one_noted map.empty rows ≡ false
none_noted [] = refl
none_noted (row ∷ rows) =
    elim row.1 as (λ load. (is_noted map.empty load || one_noted map.empty rows) ≡ false) [
      | None ↦ none_noted rows
      | Some load ↦ ap (λ o. is_some o || one_noted map.empty rows) (map.get-empty name_cmp load) ∙ none_noted rows
    ]

-- the loads of all rows, if none is on two
noted_from_none : (rows : List Row) → noted_all map.empty rows ≡ cond (has_twice rows) None (Some (found_in rows))
unfolding found_in
noted_from_none rows =
    noted_all-is map.empty rows
    ∙ ap (λ b. cond (b || has_twice rows) None (Some (with_rows map.empty rows))) (none_noted rows)
    ∙ ap (λ m. cond (has_twice rows) None (Some m)) (with_rows-none rows)

told_by : (twice : Bool) (found noted : Found) → cond twice None (Some found) ≡ Some noted → (twice ≡ false) × (noted ≡ found)
told_by true found noted e = absurd (false≢true (ap is_some e))
told_by false found noted e = (refl, cc)

twice_by : (twice : Bool) (found : Found) → cond twice None (Some found) ≡ None → twice ≡ true
twice_by true found e = refl
twice_by false found e = absurd (false≢true (sym (ap is_some e)))

-- when all rows are noted, no load is on two of them, and these are the found loads
pub all_found : (rows : List Row) (noted : Found) (i : ℕ) → length rows ≤ i → noted_all noted (drop i rows) ≡ noted_all map.empty rows → AreFound rows (Some noted)
all_found rows noted i past is = told_by (has_twice rows) (found_in rows) noted (sym (noted_from_none rows) ∙ sym is ∙ at_drop_all (noted_all noted) rows i past)

-- when a load is on a row again, it is on two
pub found_twice : (rows : List Row) (noted : Found) (i : ℕ) (row : Row) (after : Bool × Found) → i < length rows → row ≡ get_or rows i row → after ≡ noted_load noted row.0 row.1 → after.0 ≡ false
    → noted_all noted (drop i rows) ≡ noted_all map.empty rows → AreFound rows None
found_twice rows noted i row after within at more known is =
    let next : Bool → Option Found = λ b. cond b (noted_all (noted_load noted row.0 row.1).1 (drop (i + 1) rows)) None in
    let none : noted_all noted (drop i rows) ≡ None =
    at_drop_more (noted_all noted) rows i row within ∙ ap (λ (r : Row). noted_all noted (r ∷ drop (i + 1) rows)) (sym at) ∙ ap next (ap (λ (m : Bool × Found). m.0) (sym more) ∙ known) in
    twice_by (has_twice rows) (found_in rows) (sym (noted_from_none rows) ∙ sym is ∙ none)
