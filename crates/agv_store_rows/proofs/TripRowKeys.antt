-- Each row of open trips stands at a key of its own, in the order of the keys, and a test tells the rows of an order.
use Rattle.std.proofs.Common.{◌≡◌, ℕ, ◌+◌, ◌<◌, nat_eq, arith, cond, T, List, [], ◌∷◌, ◌++◌, map, flat_map, None, Some, Ordering, Less, is_eq, refl, sym, ap, ◌∙◌}
use Rattle.std.specs.Cmp.{eq_by_cmp_equiv, nat_cmp_is, tied_itself}
use Rattle.std.specs.Cmp.Lexicographic.{pointwise, texts_ties}
use Rattle.std.specs.FinMap.{find, is_sorted}
use Rattle.std.specs.List.{AllByRecursion}
use Rattle.std.specs.List.Sorted.{IsStrictlySortedBy}
use Rattle.std.specs.Map.{keys_of}
use Rattle.std.specs.Ordering.{eq_by_cmp, nat_cmp, ordering_then}
use Rattle.agv_header.specs.Name.{name_cmp}
use Rattle.agv_order.specs.declared.act.Act.{Act}
use Rattle.agv_world_core.specs.declared.row.TripRow.{TripRow}
use Rattle.agv_world_core.proofs.lists.Orders.{names_total}
use Rattle.agv_store_rows.specs.ActKeys.{act_cmp}
use Rattle.agv_store_rows.specs.TripRows.{act_key, act_rows, act_rows_from, is_of, journey_of}
use Rattle.agv_store_rows.specs.declared.act_key.ActKey.{ActKey}
use Rattle.agv_store_rows.specs.declared.act_row.ActRow.{ActRow}
use Rattle.agv_store_rows.specs.declared.journey_row.JourneyRow.{JourneyRow}
use Rattle.agv_store_rows.proofs.Elements.{all_weaker, all-append, all-flat_map}
use Rattle.agv_store_rows.proofs.KeyedTripRows.{first_above, rest_sorted}

-- ---- entries whose keys rise

module _ {K X : Type 0} (R : K → K → Ordering) where
  -- the key of each entry is after x
  abbrev pub AreAfter : K → List (K × X) → Type 0
  AreAfter x es = AllByRecursion (λ (e : K × X). R x e.0 ≡ Less) es

  -- each key is before those after it
  abbrev pub DoRise : List (K × X) → Type 0
  DoRise [] = Unit {0}
  DoRise (e ∷ es) = AreAfter e.0 es × DoRise es

  pub rise-append : (xs ys : List (K × X)) → DoRise xs → DoRise ys → AllByRecursion (λ (e : K × X). AreAfter e.0 ys) xs → DoRise (xs ++ ys)
  rise-append [] ys one other across = other
  rise-append (e ∷ xs) ys one other across = (all-append _ xs ys one.0 across.0, rise-append xs ys one.1 other across.1)

  pub rise_from_sorted : (es : List (K × X)) → T (is_sorted R es) → DoRise es
  rise_from_sorted [] s = tt
  rise_from_sorted (e ∷ es) s = (first_above R e es s, rise_from_sorted es (rest_sorted R e es s))

  -- a key before all others is none of them
  pub not_after : (q : K) (es : List (K × X)) → AreAfter q es → find R q es ≡ None
  not_after q [] h = refl
  not_after q (e ∷ es) h = ap (λ o. cond (is_eq o) (Some e.1) (find R q es)) h.0 ∙ not_after q es h.1

  keys_after : (x : K) (es : List (K × X)) → AreAfter x es → AllByRecursion (λ k. R x k ≡ Less) (keys_of es)
  keys_after x [] h = tt
  keys_after x (e ∷ es) h = (h.0, keys_after x es h.1)

  pub sorted_from_rise : (es : List (K × X)) → DoRise es → IsStrictlySortedBy R (keys_of es)
  unfolding IsStrictlySortedBy
  sorted_from_rise [] h = tt
  sorted_from_rise (e ∷ es) h = (keys_after e.0 es h.0, sorted_from_rise es h.1)

-- ---- the rows of one trip

pub named : (k q : List ℕ) → pointwise nat_eq q k ≡ eq_by_cmp name_cmp k q
named k q = texts_ties q k ∙ (eq_by_cmp_equiv names_total).symm q k

-- the row of a journey with its key
abbrev pub journey_row : List ℕ → TripRow → List (List ℕ × JourneyRow)
journey_row order trip = (order, journey_of trip) ∷ []

pub acts_tested : (k q : List ℕ) (n : ℕ) (acts : List Act) → AllByRecursion (λ row. is_of k row ≡ eq_by_cmp name_cmp k q) (act_rows_from q n acts)
acts_tested k q n [] = tt
acts_tested k q n (act ∷ acts) = (named k q, acts_tested k q (n + 1) acts)

pub numbers_after : (order : List ℕ) (i k : ℕ) → i < k → act_cmp (act_key order i) (act_key order k) ≡ Less
numbers_after order i k lt = ap (λ o. ordering_then o (nat_cmp i k)) (tied_itself names_total order) ∙ sym (nat_cmp_is i k Less lt)

acts_after : (order : List ℕ) (i k : ℕ) → i < k → (acts : List Act) → AreAfter act_cmp (act_key order i) (act_rows_from order k acts)
acts_after order i k lt [] = tt
acts_after order i k lt (act ∷ acts) = (numbers_after order i k lt, acts_after order i (k + 1) (omega (arith, lt)) acts)

pub acts_rise : (order : List ℕ) (n : ℕ) (acts : List Act) → DoRise act_cmp (act_rows_from order n acts)
acts_rise order n [] = tt
acts_rise order n (act ∷ acts) = (acts_after order n (n + 1) (omega arith) acts, acts_rise order (n + 1) acts)

-- ---- the rows of many trips

module _ (key : ActKey) (q : List ℕ) (before : name_cmp key.order q ≡ Less) where
  order_after : (n : ℕ) (acts : List Act) → AreAfter act_cmp key (act_rows_from q n acts)
  order_after n [] = tt
  order_after n (act ∷ acts) = (ap (λ o. ordering_then o (nat_cmp key.n n)) before, order_after (n + 1) acts)

abbrev pub acts_in : List (List ℕ × TripRow) → List (ActKey × ActRow)
acts_in es = flat_map (λ (e : List ℕ × TripRow). act_rows e.0 e.1) es

abbrev pub journeys_in : List (List ℕ × TripRow) → List (List ℕ × JourneyRow)
journeys_in es = map (λ (e : List ℕ × TripRow). (e.0, journey_of e.1)) es

orders_after : (key : ActKey) (es : List (List ℕ × TripRow)) → AreAfter name_cmp key.order es → AreAfter act_cmp key (acts_in es)
orders_after key es h = all-flat_map _ _ es (all_weaker _ _ (λ e before. order_after key e.0 before 0 e.1.acts) es h)

one_after : (order : List ℕ) (n : ℕ) (acts : List Act) (es : List (List ℕ × TripRow)) → AreAfter name_cmp order es → AllByRecursion (λ (row : ActKey × ActRow). AreAfter act_cmp row.0 (acts_in es)) (act_rows_from order n acts)
one_after order n [] es h = tt
one_after order n (act ∷ acts) es h = (orders_after (act_key order n) es h, one_after order (n + 1) acts es h)

pub all_acts_rise : (es : List (List ℕ × TripRow)) → DoRise name_cmp es → DoRise act_cmp (acts_in es)
all_acts_rise [] h = tt
all_acts_rise (e ∷ es) h = rise-append act_cmp (act_rows e.0 e.1) (acts_in es) (acts_rise e.0 0 e.1.acts) (all_acts_rise es h.1) (one_after e.0 0 e.1.acts es h.0)

journeys_after : (order : List ℕ) (es : List (List ℕ × TripRow)) → AreAfter name_cmp order es → AreAfter name_cmp order (journeys_in es)
journeys_after order [] h = tt
journeys_after order (e ∷ es) h = (h.0, journeys_after order es h.1)

pub journeys_rise : (es : List (List ℕ × TripRow)) → DoRise name_cmp es → DoRise name_cmp (journeys_in es)
journeys_rise [] h = tt
journeys_rise (e ∷ es) h = (journeys_after e.0 es h.0, journeys_rise es h.1)

-- the trips are in order where their journeys are
after_journeys : (order : List ℕ) (es : List (List ℕ × TripRow)) → AreAfter name_cmp order (journeys_in es) → AreAfter name_cmp order es
after_journeys order [] h = tt
after_journeys order (e ∷ es) h = (h.0, after_journeys order es h.1)

pub rise_as_journeys : (es : List (List ℕ × TripRow)) → DoRise name_cmp (journeys_in es) → DoRise name_cmp es
rise_as_journeys [] h = tt
rise_as_journeys (e ∷ es) h = (after_journeys e.0 es h.0, rise_as_journeys es h.1)
