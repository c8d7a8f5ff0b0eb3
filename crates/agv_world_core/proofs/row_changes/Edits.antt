-- What a table has after rows were written and removed, one after the other.
use Rattle.std.proofs.Common.{◌≡◌, true, false, cond, ◌||◌, List, [], ◌∷◌, map, Option, Some, None, Ordering, refl, ap, ◌∙◌}
use Rattle.std.specs.Cmp.{IsTotalOrder}
use Rattle.std.specs.FinMap.{FinMap, get, get-insert, get-remove}
use Rattle.std.specs.List.{list_any}
use Rattle.std.specs.Ordering.{eq_by_cmp}
use Rattle.agv_header.specs.Spread.{edit}

-- the rows, written or removed one after the other
abbrev pub edit_all : {Q Y : Type 0} {S : Q → Q → Ordering} → List (Q × Option Y) → FinMap S Y → FinMap S Y
edit_all [] table = table
edit_all (e ∷ es) table = edit_all es (edit table e.0 e.1)

-- what stands at a key after them, where y stood
abbrev pub edited : {Q Y : Type 0} (S : Q → Q → Ordering) → Q → List (Q × Option Y) → Option Y → Option Y
edited S q [] y = y
edited S q (e ∷ es) y = edited S q es (cond (eq_by_cmp S q e.0) e.1 y)

module _ {Q Y : Type 0} {S : Q → Q → Ordering} (total : IsTotalOrder S) where
  pub get-edit : (t : FinMap S Y) (k : Q) (v : Option Y) (q : Q) → get (edit t k v) q ≡ cond (eq_by_cmp S q k) v (get t q)
  get-edit t k None q = get-remove total t k q
  get-edit t k (Some y) q = get-insert total t k y q

  pub get-edit_all : (es : List (Q × Option Y)) (t : FinMap S Y) (q : Q) → get (edit_all es t) q ≡ edited S q es (get t q)
  get-edit_all [] t q = refl
  get-edit_all (e ∷ es) t q = get-edit_all es (edit t e.0 e.1) q ∙ ap (edited S q es) (get-edit t e.0 e.1 q)

-- the same row at each key of a list
pub edited-run : {Q Y : Type 0} (S : Q → Q → Ordering) (q : Q) (v : Option Y) (xs : List Q) (y : Option Y) → edited S q (map (λ x. (x, v)) xs) y ≡ cond (list_any (eq_by_cmp S q) xs) v y
edited-run S q v [] y = refl
edited-run S q v (x ∷ xs) y = edited-run S q v xs (cond (eq_by_cmp S q x) v y)
    ∙ elim (eq_by_cmp S q x) as (λ b. cond (list_any (eq_by_cmp S q) xs) v (cond b v y) ≡ cond (b || list_any (eq_by_cmp S q) xs) v y) [
      | true ↦ elim (list_any (eq_by_cmp S q) xs) as (λ c. cond c v v ≡ v) [ true ↦ refl | false ↦ refl ]
      | false ↦ refl
    ]
