-- Among stops that can be carried out, the jobs that pass a test have as many drops as picks.
use Rattle.std.proofs.Common.{◌≡◌, ℕ, suc, ◌+◌, ◌*◌, ◌&&◌, not, Bool, true, false, cond, List, [], ◌∷◌, map, length, count_by, IsTrue, Some, refl, sym, ap, ◌∙◌, arith}
use Rattle.std.specs.Cmp.Lexicographic.{same_text}
use Rattle.std.specs.List.{filter, list_all, slice_get}
use Rattle.std.proofs.lemmas.Bool.{and_parts, and_from, false_from_ne_true, true≢false}
use Rattle.std.proofs.lemmas.List.Sums.{sum_by-cons}
use Rattle.agv_message_core.specs.declared.order.ActKind.{ActKind}
use Rattle.agv_message_core.specs.declared.order.ActKind.TheVariants.{Pick, Drop}
use Rattle.agv_order.specs.StopPlaces.{stop_picks}
use Rattle.agv_order.specs.Stops.{is_drop, is_of, is_pick_then_drop, kinds_of, are_paired}
use Rattle.agv_order.specs.declared.act.Act.{Act}
use Rattle.agv_order.specs.declared.stop.Stop.{Stop}
use Rattle.agv_world_core.proofs.lawful_worlds.ActPlaces.{stops_of}

-- ---- counts

module _ {X : Type 0} where
  pub counted-cons : (p : X → Bool) (x : X) (xs : List X) → count_by p (x ∷ xs) ≡ cond (p x) 1 0 + count_by p xs
  counted-cons p x xs = sum_by-cons (λ y. cond (p y) 1 0) x xs

  -- tests that agree at each place count alike
  pub counted_alike : (p q : X → Bool) (xs : List X) → ((k : ℕ) (x : X) → slice_get xs k ≡ Some x → p x ≡ q x) → count_by p xs ≡ count_by q xs
  counted_alike p q [] agree = refl
  counted_alike p q (x ∷ xs) agree =
      counted-cons p x xs
      ∙ (λ i. cond (agree 0 x refl i) 1 0 + counted_alike p q xs (λ k y at. agree (suc k) y at) i)
      ∙ sym (counted-cons q x xs)

  -- what passes p is what passes q too, and what doesn't
  pub counted_apart : (p q : X → Bool) (xs : List X) → count_by (λ x. p x && q x) xs + count_by (λ x. p x && not (q x)) xs ≡ count_by p xs
  counted_apart p q [] = refl
  counted_apart p q (x ∷ xs) =
      by (p x) (q x) _ _ _ _ _ _ (counted-cons (λ y. p y && q y) x xs) (counted-cons (λ y. p y && not (q y)) x xs) (counted-cons p x xs) (counted_apart p q xs)
    where
      by : (b c : Bool) (m n k m' n' k' : ℕ) → m ≡ cond (b && c) 1 0 + m' → n ≡ cond (b && not c) 1 0 + n' → k ≡ cond b 1 0 + k' → m' + n' ≡ k' → m + n ≡ k
      by true true m n k m' n' k' e f g h = omega (arith, e, f, g, h)
      by true false m n k m' n' k' e f g h = omega (arith, e, f, g, h)
      by false c m n k m' n' k' e f g h = omega (arith, e, f, g, h)

pub counted_mapped : {X Y : Type 0} (p : Y → Bool) (f : X → Y) (xs : List X) → count_by p (map f xs) ≡ count_by (λ x. p (f x)) xs
counted_mapped p f [] = refl
counted_mapped p f (x ∷ xs) = counted-cons p (f x) (map f xs) ∙ ap (λ n. cond (p (f x)) 1 0 + n) (counted_mapped p f xs) ∙ sym (counted-cons (λ y. p (f y)) x xs)

-- ---- the stops of some jobs can be carried out

module _ {X : Type 0} where
  filter_twice : (p q : X → Bool) → ((x : X) → p x ≡ true → q x ≡ true) → (xs : List X) → filter p (filter q xs) ≡ filter p xs
  filter_twice p q weaker [] = refl
  filter_twice p q weaker (x ∷ xs) =
      let rest : filter p (filter q xs) ≡ filter p xs = filter_twice p q weaker xs in
      elim (q x) as (λ b. q x ≡ b → filter p (cond b (x ∷ filter q xs) (filter q xs)) ≡ cond (p x) (x ∷ filter p xs) (filter p xs)) [
        | true ↦ λ kept. ap (λ zs. cond (p x) (x ∷ zs) zs) rest
        | false ↦ λ out. rest ∙ sym (ap (λ b. cond b (x ∷ filter p xs) (filter p xs)) (false_from_ne_true (p x) (λ passed. true≢false (sym (weaker x passed) ∙ out))))
      ] refl

  all_kept : (all other q : X → Bool) → ((x : X) → q x ≡ true → all x ≡ other x) → (xs : List X) → list_all all xs ≡ true → list_all other (filter q xs) ≡ true
  all_kept all other q same [] each = refl
  all_kept all other q same (x ∷ xs) each =
      let parts = and_parts (all x) (list_all all xs) each in
      let rest = all_kept all other q same xs parts.1 in
      elim (q x) as (λ b. q x ≡ b → list_all other (cond b (x ∷ filter q xs) (filter q xs)) ≡ true) [
        | true ↦ λ kept. and_from (other x) (list_all other (filter q xs)) (sym (same x kept) ∙ parts.0) rest
        | false ↦ λ out. rest
      ] refl

-- each job that the stops name is picked and then dropped among all
abbrev is_served : List Stop → Stop → Bool
is_served all stop = is_pick_then_drop (kinds_of all stop.job)

-- paired stops are twice as many as the picks
abbrev pub StopsTwice : Type 0
StopsTwice = (stops : List Stop) → IsTrue (are_paired stops) → length stops ≡ 2 * length (filter stop_picks stops)

-- so many stops are drops, and so many are picks
abbrev Sizes : List Stop → ℕ → ℕ → Type 0
Sizes stops drops picks = (length stops ≡ drops + picks) × (length (filter stop_picks stops) ≡ picks)

module _ (test : List ℕ → Bool) where
  abbrev passes : Stop → Bool
  passes stop = test stop.job

  kept_paired : (stops : List Stop) → IsTrue (are_paired stops) → IsTrue (are_paired (filter passes stops))
  kept_paired stops fits =
      all_kept (is_served stops) (is_served (filter passes stops)) passes (λ stop kept.
      ap (λ own. is_pick_then_drop (map (λ (s : Stop). s.kind) own)) (sym (filter_twice (is_of stop.job) passes (λ other own. ap test (same_text other.job stop.job (sym own)) ∙ kept) stops)))
      stops fits

  kept_twice : StopsTwice → (stops : List Stop) → IsTrue (are_paired stops) → length (filter passes stops) ≡ 2 * length (filter stop_picks (filter passes stops))
  kept_twice twice stops fits = twice (filter passes stops) (kept_paired stops fits)

  abbrev pub is_drop_of : Act → Bool
  is_drop_of act = is_drop act.kind && test act.job

  abbrev pub is_pick_of : Act → Bool
  is_pick_of act = not (is_drop act.kind) && test act.job

  -- the stops of those jobs are their drops and their picks
  sizes : (acts : List Act) → Sizes (filter passes (stops_of acts)) (count_by is_drop_of acts) (count_by is_pick_of acts)
  sizes [] = (refl, refl)
  sizes (act ∷ acts) = by act.kind (test act.job) _ _ (counted-cons is_drop_of act acts) (counted-cons is_pick_of act acts) (sizes acts)
    where
      by : (kind : ActKind) (b : Bool) (m n : ℕ)
          → m ≡ cond (is_drop kind && b) 1 0 + count_by is_drop_of acts
          → n ≡ cond (not (is_drop kind) && b) 1 0 + count_by is_pick_of acts
          → Sizes (filter passes (stops_of acts)) (count_by is_drop_of acts) (count_by is_pick_of acts)
          → Sizes (cond b (record { kind = kind; job = act.job } ∷ filter passes (stops_of acts)) (filter passes (stops_of acts))) m n
      by Pick true m n e f so = (omega (arith, so.0, e, f), omega (arith, so.1, f))
      by Drop true m n e f so = (omega (arith, so.0, e, f), omega (arith, so.1, f))
      by Pick false m n e f so = (omega (arith, so.0, e, f), omega (arith, so.1, f))
      by Drop false m n e f so = (omega (arith, so.0, e, f), omega (arith, so.1, f))

  -- as many drops as picks
  pub drops_as_picks : StopsTwice → (acts : List Act) → IsTrue (are_paired (stops_of acts)) → count_by is_drop_of acts ≡ count_by is_pick_of acts
  drops_as_picks twice acts fits = let so = sizes acts in omega (arith, so.0, so.1, kept_twice twice (stops_of acts) fits)
