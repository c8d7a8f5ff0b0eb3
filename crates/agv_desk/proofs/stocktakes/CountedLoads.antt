-- The found loads are looked up and counted from row to row.
use Rattle.std.proofs.Common.{◌≡◌, ℕ, ◌+◌, ◌<◌, ◌≤◌, Bool, true, false, cond, ◌&&◌, nat_eq, Option, Some, None, List, ◌∷◌, ◌++◌, length, take, drop, get_or, unwrap_or, append_assoc, append-nil, length-take, arith, refl, sym, ap, ◌∙◌}
use Rattle.std.specs.Cmp.Lexicographic.{pointwise}
use Rattle.std.specs.FinMap as map
use Rattle.std.proofs.lemmas.List.{at_drop_more, at_drop_all}
use Rattle.std.proofs.lemmas.List.Sums.{count_by_more_yes, count_by_more_no, count_by-le-length}
use Rattle.agv_header.specs.Name.{name_cmp}
use Rattle.agv_world_core.specs.Worlds.{World}
use Rattle.agv_world_core.proofs.lists.Orders.{names_total}
use Rattle.agv_desk.specs.CountParts.{counted_up, is_found_at, count_at, counted_loads, with_counted_load}
use Rattle.agv_desk.specs.StocktakeSteps.{Row, is_here}
use Rattle.agv_desk.specs.declared.stocktake.counted_load.CountedLoad.{CountedLoad}
use Rattle.agv_desk.proofs.lists.SameNames.{same_name, tie_turned}

-- ---- one row more
look_more : (world : World) (counted_list : List CountedLoad) (station : List ℕ) (load : Option (List ℕ)) (rows : List Row)
    → with_counted_load world counted_list station load ++ counted_loads world rows ≡ counted_list ++ counted_loads world ((station, load) ∷ rows)
unfolding counted_loads
look_more world counted_list station None rows = refl
look_more world counted_list station (Some load) rows = append_assoc counted_list _ _

pub looked_more : (world : World) (counted_list : List CountedLoad) (rows : List Row) (i : ℕ) (row : Row) (all : List CountedLoad) → i < length rows → row ≡ get_or rows i row
    → counted_list ++ counted_loads world (drop i rows) ≡ all → with_counted_load world counted_list row.0 row.1 ++ counted_loads world (drop (i + 1) rows) ≡ all
looked_more world counted_list rows i row all within at is =
    look_more world counted_list row.0 row.1 (drop (i + 1) rows)
    ∙ ap (λ (r : Row). counted_list ++ counted_loads world (r ∷ drop (i + 1) rows)) at
    ∙ sym (at_drop_more (λ rest. counted_list ++ counted_loads world rest) rows i row within)
    ∙ is

pub looked_at_all : (world : World) (counted_list all : List CountedLoad) (rows : List Row) (i : ℕ) → length rows ≤ i → counted_list ++ counted_loads world (drop i rows) ≡ all → counted_list ≡ all
unfolding counted_loads
looked_at_all world counted_list all rows i past is = sym (append-nil counted_list) ∙ sym (at_drop_all (λ rest. counted_list ++ counted_loads world rest) rows i past) ∙ is

-- ---- one load more is counted
one_more : (b : Bool) (n : ℕ) → cond b (n + 1) n ≡ n + cond b 1 0
one_more true n = refl
one_more false n = omega arith

pub counted_more : (counted_list : List CountedLoad) (i : ℕ) (one : CountedLoad) (station : List ℕ) → i < length counted_list → one ≡ get_or counted_list i one → counted_up one (count_at (take i counted_list) station) station ≡ count_at (take (i + 1) counted_list) station
counted_more counted_list i one station within at =
    elim (is_found_at station one) as (λ b. is_found_at station one ≡ b → cond b (count_at (take i counted_list) station + 1) (count_at (take i counted_list) station) ≡ count_at (take (i + 1) counted_list) station) [
      | true ↦ λ e. sym (count_by_more_yes (is_found_at station) counted_list i one within (ap (is_found_at station) (sym at) ∙ e))
      | false ↦ λ e. sym (count_by_more_no (is_found_at station) counted_list i one within (ap (is_found_at station) (sym at) ∙ e))
    ] refl

pub counted_few : (counted_list : List CountedLoad) (i : ℕ) (station : List ℕ) → i < length counted_list → count_at (take i counted_list) station ≤ i
counted_few counted_list i station within = omega (arith, count_by-le-length (is_found_at station) (take i counted_list), length-take i counted_list)

abbrev pub Counts : Type 0
Counts = map.FinMap name_cmp ℕ

-- a count is written anew
pub recounted_one : (counts : Counts) (one : CountedLoad) (station : List ℕ) → is_here one.place ≡ true
    → unwrap_or (map.get (map.insert counts one.station (unwrap_or (map.get counts one.station) 0 + 1)) station) 0 ≡ counted_up one (unwrap_or (map.get counts station) 0) station
recounted_one counts one station here =
    ap (λ o. unwrap_or o 0) (map.get-insert names_total counts one.station _ station ∙ ap (λ b. cond b (Some (unwrap_or (map.get counts one.station) 0 + 1)) (map.get counts station)) (tie_turned station one.station))
    ∙ elim (pointwise nat_eq one.station station) as (λ b. pointwise nat_eq one.station station ≡ b → unwrap_or (cond b (Some (unwrap_or (map.get counts one.station) 0 + 1)) (map.get counts station)) 0 ≡ cond (b && is_here one.place) (unwrap_or (map.get counts station) 0 + 1) (unwrap_or (map.get counts station) 0)) [
      | true ↦ λ e. ap (λ s. unwrap_or (map.get counts s) 0 + 1) (same_name one.station station e) ∙ ap (λ b. cond b (unwrap_or (map.get counts station) 0 + 1) (unwrap_or (map.get counts station) 0)) (sym here)
      | false ↦ λ e. refl
    ] refl

not_counted : (b h : Bool) (n : ℕ) → h ≡ false → n ≡ cond (b && h) (n + 1) n
not_counted true h n e = ap (λ h. cond h (n + 1) n) (sym e)
not_counted false h n e = refl

pub same_count : (counts : Counts) (one : CountedLoad) (station : List ℕ) → is_here one.place ≡ false → unwrap_or (map.get counts station) 0 ≡ counted_up one (unwrap_or (map.get counts station) 0) station
same_count counts one station gone = not_counted (pointwise nat_eq one.station station) (is_here one.place) _ gone

pub no_counts : (station : List ℕ) → unwrap_or (map.get (map.empty {X = ℕ} {R = name_cmp}) station) 0 ≡ 0
no_counts station = ap (λ o. unwrap_or o 0) (map.get-empty name_cmp station)
