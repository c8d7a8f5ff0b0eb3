-- What a query on one table answers: the rows that pass its tests, as it shows them.
use Rattle.std.proofs.Common.{◌≡◌, ◌^◌, ◌-◌, ℕ, zero, suc, nat_le, Bool, true, false, ◌&&◌, cond, List, [], ◌∷◌, ◌++◌, map, drop, filter, flat_map, slice_get, unwrap_or, None, refl, sym, ap, ap₂, subst, ◌∙◌, IsPermutation}
use Rattle.std.specs.List.{list_all}
use Rattle.std.proofs.lemmas.Bool.{and_parts}
use Rattle.std.proofs.lemmas.List.Sorted.{IsPermutation-map}
use Rattle.sqlite_value.specs.declared.value.Value.TheVariants.{Null}
use Rattle.sqlite_value.specs.Order.{Row, column}
use Rattle.sqlite_trees.specs.Tree.{Trees}
use Rattle.sqlite_sql.specs.Term.{Term, lit, col, op1, op2, case, eval, eval_all, holds}
use Rattle.sqlite_sql.specs.Ops.{unary, binary, is_true}
use Rattle.sqlite_sql.specs.Query.{IsAnswer, Output, end, inner, matches, output}
use Rattle.sqlite_sql.specs.Program.{overlay}
use Rattle.agv_store_schema.specs.DeskRows.{first_columns, columns_in}
use Rattle.agv_store_schema.proofs.OneTable.{query_by}

-- the entry passes the tests
abbrev pub entry_passes : List Term → Row → Row → Bool
entry_passes terms params entry = list_all (holds (params ∷ entry ∷ [])) terms

-- the row passes them, whatever its rowid is
abbrev pub passes : List Term → Row → Row → Bool
passes terms params row = entry_passes terms params (Null ∷ row)

-- ---- the answer

nothing_laid_over : (b : Bool) (n : ℕ) (entries : List Row) → unwrap_or (cond b (slice_get {X = List Row} [] n) None) entries ≡ entries
nothing_laid_over true n entries = refl
nothing_laid_over false n entries = refl

tree_alone : (db : Trees) (t : ℕ) → overlay db [] t ≡ db t
tree_alone db t = nothing_laid_over (nat_le (2 ^ 31) t) (t - 2 ^ 31) (db t)

matched : (terms : List Term) (params : Row) (entries : List Row)
    → flat_map (λ e. cond (list_all (holds (params ∷ e ∷ [])) terms) ((params ∷ e ∷ []) ∷ []) []) entries ≡ map (λ e. params ∷ e ∷ []) (filter (entry_passes terms params) entries)
matched terms params [] = refl
matched terms params (e ∷ entries) =
    elim (entry_passes terms params e) as (λ b. cond b ((params ∷ e ∷ []) ∷ []) [] ++ flat_map (λ x. cond (list_all (holds (params ∷ x ∷ [])) terms) ((params ∷ x ∷ []) ∷ []) []) entries
    ≡ map (λ x. params ∷ x ∷ []) (cond b (e ∷ filter (entry_passes terms params) entries) (filter (entry_passes terms params) entries)))
    [ true ↦ ap (λ all. (params ∷ e ∷ []) ∷ all) (matched terms params entries) | false ↦ matched terms params entries ]

three_maps : {A B C D : Type 0} (h : C → D) (g : B → C) (f : A → B) (xs : List A) → map h (map g (map f xs)) ≡ map (λ x. h (g (f x))) xs
three_maps h g f [] = refl
three_maps h g f (x ∷ xs) = ap (λ ys. h (g (f x)) ∷ ys) (three_maps h g f xs)

-- the rows of a table that pass
pub passing : (tree : ℕ) (terms : List Term) (db : Trees) (params : Row) → matches (overlay db []) terms (inner tree end) (params ∷ []) ≡ map (λ e. params ∷ e ∷ []) (filter (entry_passes terms params) (db tree))
passing tree terms db params = matched terms params (overlay db [] tree) ∙ ap (λ es. map (λ e. params ∷ e ∷ []) (filter (entry_passes terms params) es)) (tree_alone db tree)

pub answered_by : (tree : ℕ) (terms project : List Term) (db : Trees) (params : Row) (rows : List Row) → IsAnswer (query_by tree terms project) (overlay db []) params rows
    → IsPermutation (map (λ e. eval_all project (params ∷ e ∷ [])) (filter (entry_passes terms params) (db tree))) rows
answered_by tree terms project db params rows a =
    let q = query_by tree terms project in
    let staged : a.staged ≡ map (λ e. params ∷ e ∷ []) (filter (entry_passes terms params) (db tree)) = a.grouped ∙ passing tree terms db params in
    let kept = a.distinct ∙ ap (map (output q)) staged in
    let all = three_maps (λ (o : Output). o.1) (output q) (λ (e : Row). params ∷ e ∷ []) (filter (entry_passes terms params) (db tree)) in
    subst (λ xs. IsPermutation xs rows) (ap (map (λ (o : Output). o.1)) kept ∙ all) (subst (IsPermutation (map (λ (o : Output). o.1) a.kept)) (sym a.shown) (IsPermutation-map (λ (o : Output). o.1) _ _ a.same))

-- ---- terms that read an entry's columns alone

abbrev pub is_below : ℕ → ℕ → Bool
is_below zero at = false
is_below (suc width) zero = true
is_below (suc width) (suc at) = is_below width at

-- the term reads neither the rowid nor a column past the width
abbrev pub reads_within : ℕ → Term → Bool
reads_within width (lit v) = true
reads_within width (col zero at) = true
reads_within width (col (suc zero) zero) = false
reads_within width (col (suc zero) (suc at)) = is_below width at
reads_within width (col (suc (suc slot)) at) = true
reads_within width (op1 op a) = reads_within width a
reads_within width (op2 op a b) = reads_within width a && reads_within width b
reads_within width (case t a b) = reads_within width t && (reads_within width a && reads_within width b)

past_first : (row : Row) (at : ℕ) → column row (suc at) ≡ column (drop 1 row) at
past_first [] at = refl
past_first (v ∷ row) at = refl

among_first : (width at : ℕ) (row : Row) → is_below width at ≡ true → column row at ≡ column (first_columns width row) at
among_first zero at row h = absurd (cc)
among_first (suc width) zero row h = refl
among_first (suc width) (suc at) row h = past_first row at ∙ among_first width at (drop 1 row) h

reads_alike : (width : ℕ) (t : Term) (params entry : Row) → reads_within width t ≡ true → eval t (params ∷ entry ∷ []) ≡ eval t (params ∷ (Null ∷ columns_in width entry) ∷ [])
reads_alike width (lit v) params entry h = refl
reads_alike width (col zero at) params entry h = refl
reads_alike width (col (suc zero) zero) params entry h = absurd (cc)
reads_alike width (col (suc zero) (suc at)) params entry h = past_first entry at ∙ among_first width at (drop 1 entry) h
reads_alike width (col (suc (suc slot)) at) params entry h = refl
reads_alike width (op1 op a) params entry h = ap (unary op) (reads_alike width a params entry h)
reads_alike width (op2 op a b) params entry h = let both = and_parts _ _ h in ap₂ (binary op) (reads_alike width a params entry both.0) (reads_alike width b params entry both.1)
reads_alike width (case t a b) params entry h =
    let all = and_parts _ _ h in
    let both = and_parts _ _ all.1 in
    rw (reads_alike width t params entry all.0, reads_alike width a params entry both.0, reads_alike width b params entry both.1)

pub passes_alike : (width : ℕ) (terms : List Term) (params entry : Row) → list_all (reads_within width) terms ≡ true → entry_passes terms params entry ≡ passes terms params (columns_in width entry)
passes_alike width [] params entry h = refl
passes_alike width (t ∷ terms) params entry h = let both = and_parts _ _ h in ap₂ (λ v b. is_true v && b) (reads_alike width t params entry both.0) (passes_alike width terms params entry both.1)

pub filter_alike : (width : ℕ) (terms : List Term) (params : Row) → list_all (reads_within width) terms ≡ true → (entries : List Row) → filter (entry_passes terms params) entries ≡ filter (λ e. passes terms params (columns_in width e)) entries
filter_alike width terms params h [] = refl
filter_alike width terms params h (e ∷ entries) = rw (passes_alike width terms params e h, filter_alike width terms params h entries)
