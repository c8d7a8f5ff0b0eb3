-- Which rows a table has that comes from the entries of a map.
use Rattle.std.proofs.Common.{◌≡◌, true, false, cond, List, [], ◌∷◌, ◌++◌, Some, None, Ordering, refl, sym, ap, subst, ◌∙◌}
use Rattle.std.specs.Cmp.{IsTotalOrder}
use Rattle.std.specs.FinMap.{FinMap, IsAntisymmetric, get, entries, find, get-entries, get-from_entries}
use Rattle.std.specs.List.{AllByRecursion, flat_map}
use Rattle.std.specs.Option.{option_or}
use Rattle.std.specs.Ordering.{eq_by_cmp}
use Rattle.agv_header.specs.Spread.{spread}
use Rattle.agv_world_core.proofs.lists.Entries.{no_more, same_Some, is_same, entries_found}

pub find-append : {Q Y : Type 0} (S : Q → Q → Ordering) (q : Q) (xs ys : List (Q × Y)) → find S q (xs ++ ys) ≡ option_or (find S q xs) (find S q ys)
find-append S q [] ys = refl
find-append S q (e ∷ xs) ys =
    elim (eq_by_cmp S q e.0) as (λ b. cond b (Some e.1) (find S q (xs ++ ys)) ≡ option_or (cond b (Some e.1) (find S q xs)) (find S q ys)) [
      | true ↦ refl
      | false ↦ find-append S q xs ys
    ]

-- the entry x at k gives the row y at q
abbrev pub Gives : {K X Q Y : Type 0} (S : Q → Q → Ordering) → (K → X → List (Q × Y)) → K → X → Q → Y → Type 0
Gives S rows k x q y = find S q (rows k x) ≡ Some y

module _ {K X Q Y : Type 0} {R : K → K → Ordering} (S : Q → Q → Ordering) (rows : K → X → List (Q × Y)) where
  -- no two entries give rows of one key
  abbrev pub IsApart : FinMap R X → Type 0
  IsApart m = (k l : K) (x z : X) (q : Q) (y w : Y) → get m k ≡ Some x → get m l ≡ Some z → Gives S rows k x q y → Gives S rows l z q w → k ≡ l

  -- the table has just the rows that the entries give
  pub record IsSpread (m : FinMap R X) : Type 0 where
    pub from : (q : Q) (y : Y) → get (spread S rows m) q ≡ Some y → (k : K) × (x : X) × (get m k ≡ Some x) × Gives S rows k x q y
    pub into : (k : K) (x : X) (q : Q) (y : Y) → get m k ≡ Some x → Gives S rows k x q y → get (spread S rows m) q ≡ Some y

module _ {K X Q Y : Type 0} {R : K → K → Ordering} (total : IsTotalOrder R) (apart : IsAntisymmetric R) (S : Q → Q → Ordering) (S_total : IsTotalOrder S) (rows : K → X → List (Q × Y)) (m : FinMap R X) where
  abbrev all_rows : List (K × X) → List (Q × Y)
  all_rows es = flat_map (λ (entry : K × X). rows entry.0 entry.1) es

  abbrev AreFound : List (K × X) → Type 0
  AreFound es = AllByRecursion (λ (e : K × X). get m e.0 ≡ Some e.1) es

  from-list : (q : Q) (y : Y) (es : List (K × X)) → AreFound es → find S q (all_rows es) ≡ Some y → (k : K) × (x : X) × (get m k ≡ Some x) × (find S q (rows k x) ≡ Some y)
  from-list q y [] h f = absurd (no_more y f)
  from-list q y (e ∷ es) h f =
      elim (find S q (rows e.0 e.1)) as (λ o. find S q (rows e.0 e.1) ≡ o → option_or o (find S q (all_rows es)) ≡ Some y → (k : K) × (x : X) × (get m k ≡ Some x) × (find S q (rows k x) ≡ Some y)) [
        | Some z ↦ λ is g. (e.0, e.1, h.0, is ∙ g)
        | None ↦ λ is g. from-list q y es h.1 g
      ] refl (sym (find-append S q (rows e.0 e.1) (all_rows es)) ∙ f)

  into-list : IsApart S rows m → (k : K) (x : X) (q : Q) (y : Y) → get m k ≡ Some x → find S q (rows k x) ≡ Some y → (es : List (K × X)) → AreFound es → find R k es ≡ Some x → find S q (all_rows es) ≡ Some y
  into-list once k x q y g f [] h u = absurd (no_more x u)
  into-list once k x q y g f (e ∷ es) h u =
      let row : k ≡ e.0 → find S q (rows e.0 e.1) ≡ Some y = λ key. let value = same_Some _ _ (sym g ∙ ap (get m) key ∙ h.0) in subst (λ z. find S q (rows e.0 z) ≡ Some y) value (subst (λ z. find S q (rows z x) ≡ Some y) key f) in
      find-append S q (rows e.0 e.1) (all_rows es)
      ∙ elim (find S q (rows e.0 e.1)) as (λ o. find S q (rows e.0 e.1) ≡ o → option_or o (find S q (all_rows es)) ≡ Some y) [
        | Some z ↦ λ is. sym is ∙ row (once k e.0 x e.1 q y z g h.0 f is)
        | None ↦ λ is. elim (eq_by_cmp R k e.0) as (λ b. eq_by_cmp R k e.0 ≡ b → cond b (Some e.1) (find R k es) ≡ Some x → find S q (all_rows es) ≡ Some y) [
          | true ↦ λ t v. absurd (no_more y (sym is ∙ row (is_same apart k e.0 t)))
          | false ↦ λ t v. into-list once k x q y g f es h.1 v
        ] refl u
      ] refl

  -- where no two entries give rows of one key, the table has just the rows that they give
  pub spread_is : IsApart S rows m → IsSpread S rows m
  unfolding spread
  spread_is once = record {
    from = λ q y e. from-list q y (entries m) (entries_found total m) (sym (get-from_entries S_total (all_rows (entries m)) q) ∙ e);
    into = λ k x q y g f. get-from_entries S_total (all_rows (entries m)) q ∙ into-list once k x q y g f (entries m) (entries_found total m) (sym (get-entries m k) ∙ g);
  }
