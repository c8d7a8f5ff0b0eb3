-- The members of a set, as the keys of a map.
use Rattle.std.proofs.Common.{◌≡◌, ◌||◌, Bool, true, false, cond, List, [], ◌∷◌, map, Option, Some, None, Ordering, refl, sym, ap, ◌∙◌}
use Rattle.std.specs.Cmp.{IsTotalOrder}
use Rattle.std.specs.FinMap as finite
use Rattle.std.specs.FinSet as set
use Rattle.std.specs.List.{list_any}
use Rattle.std.specs.Ordering.{eq_by_cmp}
use Rattle.agv_store_rows.specs.Rows.{marked}

abbrev pub mark : Bool → Option (Unit {0})
mark b = cond b (Some tt) None

mark-or : (a b : Bool) → cond a (Some tt) (mark b) ≡ mark (a || b)
mark-or true b = refl
mark-or false b = refl

module _ {K : Type 0} {R : K → K → Ordering} (total : IsTotalOrder R) where
  find-mark : (q : K) (ks : List K) → finite.find R q (map (λ k. (k, tt)) ks) ≡ mark (list_any (eq_by_cmp R q) ks)
  find-mark q [] = refl
  find-mark q (k ∷ ks) = ap (cond (eq_by_cmp R q k) (Some tt)) (find-mark q ks) ∙ mark-or (eq_by_cmp R q k) (list_any (eq_by_cmp R q) ks)

  -- what the map has at a key
  pub get-marked : (s : set.FinSet R) (q : K) → finite.get (marked s) q ≡ mark (set.contains s q)
  get-marked s q = finite.get-from_entries total (map (λ k. (k, tt)) (set.items s)) q ∙ find-mark q (set.items s) ∙ ap mark (sym (set.contains-items s q))

  -- a member more is a key more
  pub marked-insert : finite.IsAntisymmetric R → (s : set.FinSet R) (k : K) → finite.insert (marked s) k tt ≡ marked (set.insert s k)
  marked-insert apart s k = finite.same_map total apart _ _ (λ q.
      finite.get-insert total (marked s) k tt q ∙ ap (cond (eq_by_cmp R q k) (Some tt)) (get-marked s q) ∙ mark-or (eq_by_cmp R q k) (set.contains s q)
      ∙ ap mark (sym (set.contains-insert total s k q)) ∙ sym (get-marked (set.insert s k) q))

  of_mark : (a b : Bool) → mark a ≡ mark b → a ≡ b
  of_mark true true e = refl
  of_mark true false e = absurd (cc e)
  of_mark false true e = absurd (cc e)
  of_mark false false e = refl

  -- sets whose maps are one are one
  pub same_marked : finite.IsAntisymmetric R → (s t : set.FinSet R) → marked s ≡ marked t → s ≡ t
  same_marked apart s t e = set.same_set total apart s t (λ q. of_mark _ _ (sym (get-marked s q) ∙ ap (λ m. finite.get m q) e ∙ get-marked t q))
