-- Stops that can be carried out: what their test says of the places of the list, and how many there are.
use Rattle.std.proofs.Common.{◌≡◌, ℕ, zero, suc, ◌+◌, ◌*◌, ◌<◌, ◌≤◌, length, Bool, true, false, not, cond, List, [], ◌∷◌, map, refl, sym, ◌∙◌, ap, ◌⊎◌, ◌↔◌, inl, inr, arith, nat_eq, Some}
use Rattle.std.proofs.lemmas.Bool.{cases_Bool, and_parts, and_from, false_from_ne_true}
use Rattle.std.proofs.lemmas.Cmp.{nat_list_eq_equiv}
use Rattle.std.proofs.lemmas.List.Filters.{length-filter_both, sum_by-filter_both}
use Rattle.std.proofs.lemmas.List.Sums.{length-filter}
use Rattle.std.specs.Bool.{IsTrue}
use Rattle.std.specs.List.{filter, list_all, slice_get}
use Rattle.std.specs.Option.{option_map}
use Rattle.std.specs.Cmp.Lexicographic.{pointwise, same_text}
use Rattle.agv_message_core.specs.declared.order.ActKind.{ActKind}
use Rattle.agv_message_core.specs.declared.order.ActKind.TheVariants.{Pick, Drop}
use Rattle.agv_order.specs.declared.stop.Stop.{Stop}
use Rattle.agv_order.specs.StopPlaces.{ArePaired, IsAt, IsPickedThenDropped, CanBeDone, stop_picks}
use Rattle.agv_order.specs.Stops.{is_drop, is_of, kinds_of, is_pick_then_drop, are_paired, stops_fit}

-- ---- the stops of one job

module _ (job : List ℕ) where
  kinds_cons :
      (x : Stop) (xs : List Stop)
      → ((is_of job x ≡ true) × (kinds_of (x ∷ xs) job ≡ x.kind ∷ kinds_of xs job)) ⊎ ((is_of job x ≡ false) × (kinds_of (x ∷ xs) job ≡ kinds_of xs job))
  kinds_cons x xs =
      let at : Bool → List ActKind = λ b. map (λ (stop : Stop). stop.kind) (cond b (x ∷ filter (is_of job) xs) (filter (is_of job) xs)) in
      elim (cases_Bool (is_of job x)) [ inl mine ↦ inl (mine, ap at mine) | inr other ↦ inr (other, ap at other) ]

  -- a stop of the job
  mine_is : (x : Stop) → is_of job x ≡ true → x ≡ record { kind = x.kind; job = job }
  mine_is x mine = ap (λ (j : List ℕ). record { kind = x.kind; job = j }) (same_text x.job job (sym mine))

  not_first : (x : Stop) (xs : List Stop) (kind : ActKind) → is_of job x ≡ false → IsAt (x ∷ xs) job kind 0 → ⊥
  not_first x xs kind other here =
      let is : x ≡ record { kind = kind; job = job } = cc in
      let mine : is_of job x ≡ true = ap (is_of job) is ∙ nat_list_eq_equiv.refl job in
      cc

  tail_none : (x : Stop) (xs : List Stop) → kinds_of (x ∷ xs) job ≡ [] → (is_of job x ≡ false) × (kinds_of xs job ≡ [])
  tail_none x xs none =
      elim (kinds_cons x xs) [ inl p ↦ absurd (let h : x.kind ∷ kinds_of xs job ≡ [] = sym p.1 ∙ none in cc) | inr p ↦ (p.0, sym p.1 ∙ none) ]

  none_at : (xs : List Stop) → kinds_of xs job ≡ [] → (k : ℕ) (kind : ActKind) → IsAt xs job kind k → ⊥
  none_at [] none k kind here = cc
  none_at (x ∷ xs) none zero kind here = not_first x xs kind (tail_none x xs none).0 here
  none_at (x ∷ xs) none (suc k) kind here = none_at xs (tail_none x xs none).1 k kind here

  -- just one stop of the job, at this place
  IsOne : List Stop → ActKind → ℕ → Type 0
  IsOne xs kind k = IsAt xs job kind k × ((m : ℕ) (other : ActKind) → IsAt xs job other m → m ≡ k)

  one_here : (x : Stop) (xs : List Stop) (kind : ActKind) → is_of job x ≡ true → x.kind ≡ kind → kinds_of xs job ≡ [] → IsOne (x ∷ xs) kind 0
  unfolding IsOne
  one_here x xs kind mine same none = (first, rest)
    where
      first : IsAt (x ∷ xs) job kind 0
      first = let is = mine_is x mine in cc

      rest : (m : ℕ) (other : ActKind) → IsAt (x ∷ xs) job other m → m ≡ 0
      rest zero other at = refl
      rest (suc m) other at = absurd (none_at xs none m other at)

  one_later : (x : Stop) (xs : List Stop) (kind : ActKind) (k : ℕ) → is_of job x ≡ false → IsOne xs kind k → IsOne (x ∷ xs) kind (suc k)
  unfolding IsOne
  one_later x xs kind k other one = (one.0, rest)
    where
      rest : (m : ℕ) (kind' : ActKind) → IsAt (x ∷ xs) job kind' m → m ≡ suc k
      rest zero kind' at = absurd (not_first x xs kind' other at)
      rest (suc m) kind' at = ap suc (one.1 m kind' at)

  one_at : (xs : List Stop) (kind : ActKind) → kinds_of xs job ≡ kind ∷ [] → (k : ℕ) × IsOne xs kind k
  one_at [] kind one = absurd (cc)
  one_at (x ∷ xs) kind one =
      let rest : (is_of job x ≡ false) → kinds_of xs job ≡ kind ∷ [] → (k : ℕ) × IsOne (x ∷ xs) kind k =
      λ other e. let found = one_at xs kind e in (suc found.0, one_later x xs kind found.0 other found.1) in
      elim (kinds_cons x xs) [
        | inl p ↦ let h : x.kind ∷ kinds_of xs job ≡ kind ∷ [] = sym p.1 ∙ one in let same : x.kind ≡ kind = cc in let none : kinds_of xs job ≡ [] = cc in (0, one_here x xs kind p.0 same none)
        | inr p ↦ rest p.0 (sym p.1 ∙ one)
      ]

  -- just two stops of the job, at these places
  IsTwo : List Stop → ActKind → ActKind → ℕ → ℕ → Type 0
  IsTwo xs kind next i j = (i < j) × IsAt xs job kind i × IsAt xs job next j × ((m : ℕ) (other : ActKind) → IsAt xs job other m → (m ≡ i) ⊎ (m ≡ j))

  two_here : (x : Stop) (xs : List Stop) (kind next : ActKind) (j : ℕ) → is_of job x ≡ true → x.kind ≡ kind → IsOne xs next j → IsTwo (x ∷ xs) kind next 0 (suc j)
  unfolding IsOne IsTwo
  two_here x xs kind next j mine same one = (omega arith, first, one.0, rest)
    where
      first : IsAt (x ∷ xs) job kind 0
      first = let is = mine_is x mine in cc

      rest : (m : ℕ) (other : ActKind) → IsAt (x ∷ xs) job other m → (m ≡ 0) ⊎ (m ≡ suc j)
      rest zero other at = inl refl
      rest (suc m) other at = inr (ap suc (one.1 m other at))

  two_later : (x : Stop) (xs : List Stop) (kind next : ActKind) (i j : ℕ) → is_of job x ≡ false → IsTwo xs kind next i j → IsTwo (x ∷ xs) kind next (suc i) (suc j)
  unfolding IsTwo
  two_later x xs kind next i j other two = (omega (arith, two.0), two.1, two.2, rest)
    where
      rest : (m : ℕ) (kind' : ActKind) → IsAt (x ∷ xs) job kind' m → (m ≡ suc i) ⊎ (m ≡ suc j)
      rest zero kind' at = absurd (not_first x xs kind' other at)
      rest (suc m) kind' at = elim (two.3 m kind' at) [ inl e ↦ inl (ap suc e) | inr e ↦ inr (ap suc e) ]

  two_at : (xs : List Stop) (kind next : ActKind) → kinds_of xs job ≡ kind ∷ (next ∷ []) → (i : ℕ) × (j : ℕ) × IsTwo xs kind next i j
  two_at [] kind next two = absurd (cc)
  two_at (x ∷ xs) kind next two =
      let rest : (is_of job x ≡ false) → kinds_of xs job ≡ kind ∷ (next ∷ []) → (i : ℕ) × (j : ℕ) × IsTwo (x ∷ xs) kind next i j =
      λ other e. let found = two_at xs kind next e in (suc found.0, suc found.1, two_later x xs kind next found.0 found.1 other found.2) in
      elim (kinds_cons x xs) [
        | inl p ↦
            let h : x.kind ∷ kinds_of xs job ≡ kind ∷ (next ∷ []) = sym p.1 ∙ two in
            let same : x.kind ≡ kind = cc in
            let one : kinds_of xs job ≡ next ∷ [] = cc in
            let later = one_at xs next one in
            (0, suc later.0, two_here x xs kind next later.0 p.0 same later.1)
        | inr p ↦ rest p.0 (sym p.1 ∙ two)
      ]

  -- ---- and back

  none_from : (xs : List Stop) → ((k : ℕ) (kind : ActKind) → IsAt xs job kind k → ⊥) → kinds_of xs job ≡ []
  none_from [] none = refl
  none_from (x ∷ xs) none =
      let rest : kinds_of xs job ≡ [] = none_from xs (λ k kind at. none (suc k) kind at) in
      elim (kinds_cons x xs) [ inl p ↦ absurd (none 0 x.kind (ap Some (mine_is x p.0))) | inr p ↦ p.1 ∙ rest ]

  first_kind : (x : Stop) (xs : List Stop) (kind : ActKind) → IsAt (x ∷ xs) job kind 0 → kinds_of (x ∷ xs) job ≡ kind ∷ kinds_of xs job
  first_kind x xs kind at =
      elim (kinds_cons x xs) [
        | inl p ↦ let is : x ≡ record { kind = kind; job = job } = cc in p.1 ∙ ap (λ (s : Stop). s.kind ∷ kinds_of xs job) is
        | inr p ↦ absurd (not_first x xs kind p.0 at)
      ]

  later_kinds : (x : Stop) (xs : List Stop) → ((kind : ActKind) → IsAt (x ∷ xs) job kind 0 → ⊥) → kinds_of (x ∷ xs) job ≡ kinds_of xs job
  later_kinds x xs away = elim (kinds_cons x xs) [ inl p ↦ absurd (away x.kind (ap Some (mine_is x p.0))) | inr p ↦ p.1 ]

  one_from : (xs : List Stop) (kind : ActKind) (k : ℕ) → IsOne xs kind k → kinds_of xs job ≡ kind ∷ []
  unfolding IsOne
  one_from [] kind k one = absurd (let at = one.0 in cc)
  one_from (x ∷ xs) kind zero one =
      first_kind x xs kind one.0 ∙ ap (λ kinds. kind ∷ kinds) (none_from xs (λ m other at. let e = one.1 (suc m) other at in omega arith))
  one_from (x ∷ xs) kind (suc k) one =
      later_kinds x xs (λ other at. let e = one.1 0 other at in omega arith)
      ∙ one_from xs kind k (one.0, λ m other at. let e = one.1 (suc m) other at in omega arith)

  two_from : (xs : List Stop) (kind next : ActKind) (i j : ℕ) → IsTwo xs kind next i j → kinds_of xs job ≡ kind ∷ (next ∷ [])
  unfolding IsOne IsTwo
  two_from [] kind next i j two = absurd (let at = two.1 in cc)
  two_from (x ∷ xs) kind next i zero two = absurd (let before = two.0 in omega arith)
  two_from (x ∷ xs) kind next zero (suc j) two =
      first_kind x xs kind two.1
      ∙ ap (λ kinds. kind ∷ kinds) (one_from xs next j (two.2, λ m other at. elim (two.3 (suc m) other at) [ inl e ↦ absurd (let h = e in omega arith) | inr e ↦ let h = e in omega arith ]))
  two_from (x ∷ xs) kind next (suc i) (suc j) two =
      later_kinds x xs (λ other at. elim (two.3 0 other at) [ inl e ↦ let h = e in omega arith | inr e ↦ let h = e in omega arith ])
      ∙ two_from xs kind next i j (let before = two.0 in omega arith, two.1, two.2, λ m other at. elim (two.3 (suc m) other at) [ inl e ↦ inl (let h = e in omega arith) | inr e ↦ inr (let h = e in omega arith) ])

  -- ---- a pick and then a drop

  pick_and_drop : (kinds : List ActKind) → is_pick_then_drop kinds ≡ true → kinds ≡ Pick ∷ (Drop ∷ [])
  pick_and_drop [] is = cc
  pick_and_drop (Pick ∷ []) is = cc
  pick_and_drop (Drop ∷ []) is = cc
  pick_and_drop (Pick ∷ (Drop ∷ [])) is = refl
  pick_and_drop (Pick ∷ (Pick ∷ [])) is = cc
  pick_and_drop (Drop ∷ (Pick ∷ [])) is = cc
  pick_and_drop (Drop ∷ (Drop ∷ [])) is = cc
  pick_and_drop (first ∷ (second ∷ (third ∷ rest))) is = cc

  not_both : (xs : List Stop) (k m : ℕ) → k ≡ m → IsAt xs job Pick k → IsAt xs job Drop m → ⊥
  not_both xs k m same pick drop =
      let picked : Stop = record { kind = Pick; job = job } in
      let dropped : Stop = record { kind = Drop; job = job } in
      let one : Some picked ≡ Some dropped = sym pick ∙ (ap (slice_get xs) same ∙ drop) in
      let kinds : Some Pick ≡ Some Drop = ap (option_map (λ (stop : Stop). stop.kind)) one in
      cc

  served : (xs : List Stop) → is_pick_then_drop (kinds_of xs job) ≡ true → IsPickedThenDropped xs job
  unfolding IsTwo
  served xs is =
      let found = two_at xs Pick Drop (pick_and_drop (kinds_of xs job) is) in
      let two = found.2 in
      let pick : ℕ = found.0 in
      let drop : ℕ = found.1 in (
        pick,
        drop,
        two.0,
        (two.1, λ m at. elim (two.3 m Pick at) [ inl e ↦ e | inr e ↦ absurd (not_both xs m drop e at two.2) ]),
        (two.2, λ m at. elim (two.3 m Drop at) [ inl e ↦ absurd (not_both xs pick m (sym e) two.1 at) | inr e ↦ e ]),
      )

  test_from : (xs : List Stop) → IsPickedThenDropped xs job → is_pick_then_drop (kinds_of xs job) ≡ true
  unfolding IsTwo
  test_from xs (pick, drop, before, picked, dropped) = ap is_pick_then_drop (two_from xs Pick Drop pick drop (before, picked.0, dropped.0, either))
    where
      either : (m : ℕ) (kind : ActKind) → IsAt xs job kind m → (m ≡ pick) ⊎ (m ≡ drop)
      either m Pick at = inl (picked.1 m at)
      either m Drop at = inr (dropped.1 m at)

-- ---- all jobs

module _ (test : Stop → Bool) where
  all_at : (xs : List Stop) → list_all test xs ≡ true → (k : ℕ) (x : Stop) → slice_get xs k ≡ Some x → test x ≡ true
  all_at [] all k x at = cc
  all_at (y ∷ ys) all zero x at = let is : y ≡ x = cc in ap test (sym is) ∙ (and_parts (test y) (list_all test ys) all).0
  all_at (y ∷ ys) all (suc k) x at = all_at ys (and_parts (test y) (list_all test ys) all).1 k x at

  all_from : (xs : List Stop) → ((k : ℕ) (x : Stop) → slice_get xs k ≡ Some x → test x ≡ true) → list_all test xs ≡ true
  all_from [] each = refl
  all_from (y ∷ ys) each = and_from (test y) (list_all test ys) (each 0 y refl) (all_from ys (λ k x at. each (suc k) x at))

-- the job of the stop is picked and then dropped
abbrev is_served : List Stop → Stop → Bool
is_served stops one = is_pick_then_drop (kinds_of stops one.job)

paired : (stops : List Stop) → IsTrue (are_paired stops) → ArePaired stops
paired stops fits k stop at = served stop.job stops (all_at (is_served stops) stops fits k stop at)

paired_by : (stops : List Stop) → ArePaired stops → IsTrue (are_paired stops)
paired_by stops each = all_from (is_served stops) stops (λ k stop at. test_from stop.job stops (each k stop at))

pub pairs_as_said : (stops : List Stop) → IsTrue (are_paired stops) ↔ ArePaired stops
pairs_as_said stops = (paired stops, paired_by stops)

pub fitting_paired : (stops : List Stop) → IsTrue (stops_fit stops) → IsTrue (are_paired stops)
unfolding stops_fit
fitting_paired [] fits = refl
fitting_paired (x ∷ xs) fits = fits

said : (stops : List Stop) → IsTrue (stops_fit stops) → CanBeDone stops
unfolding stops_fit
said [] fits = absurd (cc)
said (x ∷ xs) fits = record { some = λ none. cc; each = paired (x ∷ xs) fits }

fits : (stops : List Stop) → CanBeDone stops → IsTrue (stops_fit stops)
unfolding stops_fit
fits [] done = absurd (done.some refl)
fits (x ∷ xs) done = paired_by (x ∷ xs) done.each

pub fits_as_said : (stops : List Stop) → IsTrue (stops_fit stops) ↔ CanBeDone stops
fits_as_said stops = (said stops, fits stops)

-- ---- how many there are

-- the stops of other jobs
keeps : List ℕ → Stop → Bool
keeps job x = not (is_of job x)

filter_twice : (p q : Stop → Bool) → ((x : Stop) → p x ≡ true → q x ≡ true) → (xs : List Stop) → filter p (filter q xs) ≡ filter p xs
filter_twice p q weaker [] = refl
filter_twice p q weaker (x ∷ xs) =
    let rest : filter p (filter q xs) ≡ filter p xs = filter_twice p q weaker xs in
    elim (cases_Bool (q x)) [
      | inl kept ↦
          ap (λ b. filter p (cond b (x ∷ filter q xs) (filter q xs))) kept ∙ ap (λ zs. cond (p x) (x ∷ zs) zs) rest
      | inr out ↦
          let passed : p x ≡ false = false_from_ne_true (p x) (λ e. let other = weaker x e in cc) in
          ap (λ b. filter p (cond b (x ∷ filter q xs) (filter q xs))) out ∙ (rest ∙ sym (ap (λ b. cond b (x ∷ filter p xs) (filter p xs)) passed))
    ]

all_kept :
    (test other q : Stop → Bool) → ((x : Stop) → q x ≡ true → test x ≡ other x) → (xs : List Stop) → list_all test xs ≡ true → list_all other (filter q xs) ≡ true
all_kept test other q same [] all = refl
all_kept test other q same (x ∷ xs) all =
    let parts : (test x ≡ true) × (list_all test xs ≡ true) = and_parts (test x) (list_all test xs) all in
    let rest : list_all other (filter q xs) ≡ true = all_kept test other q same xs parts.1 in
    elim (cases_Bool (q x)) [
      | inl kept ↦
          ap (λ b. list_all other (cond b (x ∷ filter q xs) (filter q xs))) kept
          ∙ and_from (other x) (list_all other (filter q xs)) (sym (same x kept) ∙ parts.0) rest
      | inr out ↦ ap (λ b. list_all other (cond b (x ∷ filter q xs) (filter q xs))) out ∙ rest
    ]

one_pick : (xs : List Stop) → map (λ (stop : Stop). stop.kind) xs ≡ Pick ∷ (Drop ∷ []) → (length xs ≡ 2) × (length (filter stop_picks xs) ≡ 1)
one_pick [] two = absurd (cc)
one_pick (x ∷ []) two = absurd (cc)
one_pick (x ∷ (y ∷ [])) two =
    let first : x.kind ≡ Pick = cc in
    let second : y.kind ≡ Drop = cc in
    let after : ActKind → List Stop = λ k. cond (not (is_drop k)) (y ∷ []) [] in
    (refl, ap (λ k. length (cond (not (is_drop k)) (x ∷ after y.kind) (after y.kind))) first ∙ ap (λ k. length (x ∷ after k)) second)
one_pick (x ∷ (y ∷ (z ∷ zs))) two = absurd (cc)

picks_split : (job : List ℕ) (xs : List Stop) → length (filter stop_picks (filter (is_of job) xs)) + length (filter stop_picks (filter (keeps job) xs)) ≡ length (filter stop_picks xs)
unfolding keeps
picks_split job xs =
    let one : Stop → ℕ = λ x. cond (stop_picks x) 1 0 in
    omega (arith, sum_by-filter_both (is_of job) (keeps job) (λ _. refl) one xs, length-filter stop_picks xs, length-filter stop_picks (filter (is_of job) xs), length-filter stop_picks (filter (keeps job) xs))

twice_within : (n : ℕ) (xs : List Stop) → length xs ≤ n → list_all (is_served xs) xs ≡ true → length xs ≡ 2 * length (filter stop_picks xs)
unfolding keeps
twice_within n [] short all = refl
twice_within zero (x ∷ xs) short all = omega arith
twice_within (suc n) (x ∷ xs) short all =
    let stops : List Stop = x ∷ xs in
    let job : List ℕ = x.job in
    let rest : List Stop = filter (keeps job) stops in
    let own = one_pick (filter (is_of job) stops) (pick_and_drop job (kinds_of stops job) (and_parts (is_served stops x) (list_all (is_served stops) xs) all).0) in
    let parts : length (filter (is_of job) stops) + length rest ≡ length stops = length-filter_both (is_of job) (keeps job) (λ _. refl) stops in
    let same : (y : Stop) → keeps job y ≡ true → is_served stops y ≡ is_served rest y =
    λ y kept.
    ap (λ mine. is_pick_then_drop (map (λ (stop : Stop). stop.kind) mine))
    (sym (filter_twice (is_of y.job) (keeps job) (λ z mine. ap (λ (j : List ℕ). not (pointwise nat_eq j job)) (same_text z.job y.job (sym mine)) ∙ kept) stops)) in
    let others : length rest ≡ 2 * length (filter stop_picks rest) =
    twice_within n rest (omega (arith, own.0)) (all_kept (is_served stops) (is_served rest) (keeps job) same stops all) in
    omega (arith, own.0, own.1, picks_split job stops)

pub stops_twice : (stops : List Stop) → IsTrue (are_paired stops) → length stops ≡ 2 * length (filter stop_picks stops)
stops_twice stops fits = twice_within (length stops) stops (omega arith) fits
