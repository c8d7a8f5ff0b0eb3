-- What one more load adds to the loads at its place, and what is read of one more load.
use Rattle.std.proofs.Common.{◌≡◌, ℕ, Bool, true, false, cond, Option, Some, None, List, [], ◌∷◌, ◌++◌, filter, length, get_or, take, ◌+◌, ◌<◌, append-nil, refl, sym, ap, ◌∙◌}
use Rattle.std.specs.BTreeMap.{BTreeMap, get, is_at}
use Rattle.std.specs.Cmp.{Equal-is, IsTotalOrder}
use Rattle.std.specs.Map.{keys_of, lookup}
use Rattle.std.specs.Option.{option_map, unwrap_or}
use Rattle.std.specs.Ordering.{is_eq}
use Rattle.std.proofs.lemmas.List.{take_more}
use Rattle.std.specs.declared.cmp.Ordering.{Ordering}
use Rattle.std.specs.declared.cmp.Ordering.TheVariants.{Equal}
use Rattle.std.specs.declared.vec.Vec.{Vec}
use Rattle.agv_stock.specs.declared.place.Place.{Place}
use Rattle.agv_count.specs.Reports.{loads_where}
use Rattle.agv_count.specs.LoadsByPlace.{loads_at, one_if}

-- places that tie have the same loads
lookup_tied : {K X : Type 0} {R : K → K → Ordering} → IsTotalOrder R → (at q : K) → R at q ≡ Equal → (es : List (K × X)) → lookup (is_at (R at)) es ≡ lookup (is_at (R q)) es
lookup_tied o at q tie [] = refl
lookup_tied o at q tie (e ∷ es) = λ i. cond (is_eq (o.congr at q e.0 tie i)) (Some e.1) (lookup_tied o at q tie es i)

-- nothing is there at first
pub loads_at-empty : {K A : Type 0} (R : K → K → Ordering) (placed : BTreeMap K (Vec (List ℕ) A)) → placed.entries ≡ [] → (q : K) → loads_at R placed q ≡ []
loads_at-empty {K} {A} R placed empty q = ap (λ (es : List (K × Vec (List ℕ) A)). unwrap_or (option_map (λ loads. loads.items) (lookup (is_at (R q)) es)) []) empty

module _ {A : Type 0} where
  abbrev pub items_of : Option (Vec (List ℕ) A) → List (List ℕ)
  items_of kept = unwrap_or (option_map (λ loads. loads.items) kept) []

  -- what is at a place, or an empty list
  pub items-kept : (kept : Option (Vec (List ℕ) A)) (fresh : Vec (List ℕ) A) → fresh.items ≡ [] → (unwrap_or kept fresh).items ≡ items_of kept
  items-kept None fresh empty = empty
  items-kept (Some loads) fresh empty = refl

module _ {K A : Type 0} {R : K → K → Ordering} (o : IsTotalOrder R) where
  -- the loads at a place, after one was put at a place
  pub loads_at-put : (old new : BTreeMap K (Vec (List ℕ) A)) (at : K) (loads : Vec (List ℕ) A) (load : List ℕ) (q : K) → loads.items ≡ loads_at R old at ++ load ∷ []
      → get R new q ≡ cond (is_at (R at) q) (Some loads) (cond (is_at (R at) q) None (get R old q))
      → loads_at R new q ≡ loads_at R old q ++ one_if (is_at (R at) q) load
  loads_at-put old new at loads load q items found =
      elim (is_at (R at) q) as (λ b. is_at (R at) q ≡ b → get R new q ≡ cond b (Some loads) (cond b None (get R old q)) → loads_at R new q ≡ loads_at R old q ++ one_if b load) [
        | true ↦ λ e g. ap items_of g ∙ items ∙ ap (λ kept. items_of kept ++ load ∷ []) (lookup_tied o at q ((Equal-is (R at q)).0 e) old.entries)
        | false ↦ λ e g. ap items_of g ∙ sym (append-nil (loads_at R old q))
      ] refl found

-- one more load, and whether it is there
pub loads_where-more : (is_there : Place → Bool) (loads : List (List ℕ × Place)) (load : List ℕ) (place : Place)
    → loads_where is_there (loads ++ (load, place) ∷ []) ≡ loads_where is_there loads ++ one_if (is_there place) load
loads_where-more is_there [] load place = elim (is_there place) as (λ b. keys_of (cond b ((load, place) ∷ []) []) ≡ one_if b load) [ true ↦ refl | false ↦ refl ]
loads_where-more is_there (l ∷ loads) load place =
    let rest = loads_where-more is_there loads load place in
    elim (is_there l.1) as (λ b. keys_of (cond b (l ∷ filter (λ x. is_there x.1) (loads ++ (load, place) ∷ [])) (filter (λ x. is_there x.1) (loads ++ (load, place) ∷ []))) ≡ keys_of (cond b (l ∷ filter (λ x. is_there x.1) loads) (filter (λ x. is_there x.1) loads)) ++ one_if (is_there place) load) [
      | true ↦ ap (λ ls. l.0 ∷ ls) rest
      | false ↦ rest
    ]

-- after one more load of the list
pub one_more_there : (is_there : Place → Bool) (loads : List (List ℕ × Place)) (i : ℕ) (load : List ℕ × Place) (old new : List (List ℕ)) → i < length loads → load ≡ get_or loads i load
    → old ≡ loads_where is_there (take i loads) → new ≡ old ++ one_if (is_there load.1) load.0 → new ≡ loads_where is_there (take (i + 1) loads)
one_more_there is_there loads i load old new within is so_far more =
    more
    ∙ ap (λ (ls : List (List ℕ)). ls ++ one_if (is_there load.1) load.0) so_far
    ∙ sym (loads_where-more is_there (take i loads) load.0 load.1)
    ∙ ap (loads_where is_there) (sym (take_more loads i load within ∙ ap (λ x. take i loads ++ x ∷ []) (sym is)))
