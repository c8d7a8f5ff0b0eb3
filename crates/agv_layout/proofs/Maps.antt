-- A finite map of a list of entries, and a `BTreeMap` of them, answer alike; so do sets. And the order of names.
use Rattle.std.proofs.Common.{arith, ◌≡◌, ℕ, suc, ◌+◌, Bool, true, false, cond, not, ◌||◌, List, [], ◌∷◌, length, is_some, Some, None, Option, Ordering, IfSome, All, Contains, Decides, refl, sym, ap, subst, true≢false, ◌∙◌}
use Rattle.std.specs.BTreeMap.{is_at}
use Rattle.std.specs.Cmp.{IsTotalOrder, IsEquivalence, eq_by_cmp_equiv}
use Rattle.std.specs.Cmp.Lexicographic.{nat_list_cmp_total}
use Rattle.std.specs.FinMap as map
use Rattle.std.specs.FinMap.{find, IsAntisymmetric, nat_cmp-IsAntisymmetric, slice_cmp-IsAntisymmetric, get-from_entries}
use Rattle.std.specs.FinSet as set
use Rattle.std.specs.FinSet.{contains-from_list}
use Rattle.std.specs.List.{list_any, AllByRecursion, IsDistinct}
use Rattle.std.specs.Map.{lookup, keys_of, values_of}
use Rattle.std.specs.Ordering.{eq_by_cmp, is_eq}
use Rattle.std.proofs.lemmas.Cmp.{tied_itself}
use Rattle.std.proofs.lemmas.Map.Lookups.{exact_bytes}
use Rattle.std.proofs.lemmas.Map.Keys.{IsDistinct-head, IsDistinct-tail}
use Rattle.std.proofs.lemmas.Map.Views.{tells_apart, Contains-from_any, list_any-from_Contains, Contains-from_lookup, lookup-from_Contains, IfSome-lookup_from_All, All-values_from_lookup}
use Rattle.std.proofs.lemmas.Map.Made.{is_some-lookup}
use Rattle.agv_header.specs.Name.{name_cmp}

-- ---- the order of names
pub names_total : IsTotalOrder name_cmp
names_total = nat_list_cmp_total

-- only equal names tie
pub names_apart : IsAntisymmetric name_cmp
names_apart = slice_cmp-IsAntisymmetric nat_cmp-IsAntisymmetric

pub same_name : (a b : List ℕ) → eq_by_cmp name_cmp a b ≡ true → a ≡ b
same_name = tells_apart exact_bytes

pub ties_with_itself : (a : List ℕ) → eq_by_cmp name_cmp a a ≡ true
ties_with_itself a = ap is_eq (tied_itself names_total a)

-- ---- look-ups
pub find-lookup : {K X : Type 0} (R : K → K → Ordering) (q : K) (es : List (K × X)) → find R q es ≡ lookup (is_at (R q)) es
find-lookup R q [] = refl
find-lookup R q (e ∷ es) = ap (cond (eq_by_cmp R q e.0) (Some e.1)) (find-lookup R q es)

-- the map of the entries has at a name what the first entry of this name has
pub get-shown : {X : Type 0} (es : List (List ℕ × X)) (q : List ℕ) → map.get (map.from_entries {R = name_cmp} es) q ≡ lookup (is_at (name_cmp q)) es
get-shown es q = get-from_entries names_total es q ∙ find-lookup name_cmp q es

-- the set of the names has those that a test for the name finds
pub contains-shown : (ks : List (List ℕ)) (q : List ℕ) → set.contains (set.from_list {R = name_cmp} ks) q ≡ list_any (is_at (name_cmp q)) ks
contains-shown ks q = contains-from_list names_total ks q

-- ---- how many
pub none_passes : {K : Type 0} (test : K → Bool) (ks : List K) → AllByRecursion (λ k. test k ≡ false) ks → list_any test ks ≡ false
none_passes test [] h = refl
none_passes test (k ∷ ks) h = ap (λ b. b || list_any test ks) h.0 ∙ none_passes test ks h.1

either_false : (b c : Bool) → (b || c) ≡ false → (b ≡ false) × (c ≡ false)
either_false true c h = absurd (true≢false h)
either_false false c h = (refl, h)

pub all_fail : {K : Type 0} (test : K → Bool) (ks : List K) → list_any test ks ≡ false → AllByRecursion (λ k. test k ≡ false) ks
all_fail test [] none = tt
all_fail test (k ∷ ks) none = let parts = either_false (test k) (list_any test ks) none in (parts.0, all_fail test ks parts.1)

one_more : (held : Bool) (n m : ℕ) → held ≡ false → n ≡ m → cond held n (n + 1) ≡ suc m
one_more true n m e same = cc
one_more false n m e same = omega arith

-- the map of entries whose names differ has as many
pub len-distinct : {X : Type 0} (es : List (List ℕ × X)) → IsDistinct (eq_by_cmp name_cmp) (keys_of es) → map.len (map.from_entries {R = name_cmp} es) ≡ length es
len-distinct {X} [] h = map.len-empty name_cmp X
len-distinct (e ∷ es) h =
    let absent = ap is_some (get-shown es e.0) ∙ is_some-lookup (is_at (name_cmp e.0)) es ∙ none_passes _ _ (IsDistinct-head (eq_by_cmp name_cmp) e.0 (keys_of es) h) in
    map.len-insert names_total _ e.0 e.1 ∙ one_more _ _ _ absent (len-distinct es (IsDistinct-tail (eq_by_cmp name_cmp) e.0 (keys_of es) h))

-- the set of names that differ has as many
pub set_len-distinct : (ks : List (List ℕ)) → IsDistinct (eq_by_cmp name_cmp) ks → set.len (set.from_list {R = name_cmp} ks) ≡ length ks
set_len-distinct [] h = set.len-empty name_cmp
set_len-distinct (k ∷ ks) h =
    let absent = contains-shown ks k ∙ none_passes _ _ (IsDistinct-head (eq_by_cmp name_cmp) k ks h) in
    set.len-insert names_total _ k ∙ one_more _ _ _ absent (set_len-distinct ks (IsDistinct-tail (eq_by_cmp name_cmp) k ks h))

-- ---- one more
-- what `insert` answers at each name is the map with one more entry
pub insert-shown : {X : Type 0} (old new : List (List ℕ × X)) (k : List ℕ) (v : X)
    → ((q : List ℕ) → lookup (is_at (name_cmp q)) new ≡ cond (is_at (name_cmp k) q) (Some v) (lookup (is_at (name_cmp q)) old))
    → map.from_entries {R = name_cmp} new ≡ map.insert (map.from_entries old) k v
insert-shown old new k v updates =
    map.same_map names_total names_apart _ _ (λ q.
    get-shown new q
    ∙ updates q
    ∙ ap (λ b. cond b (Some v) (lookup (is_at (name_cmp q)) old)) ((eq_by_cmp_equiv names_total).symm k q)
    ∙ ap (cond (eq_by_cmp name_cmp q k) (Some v)) (sym (get-shown old q))
    ∙ sym (map.get-insert names_total _ k v q))

or-cond : (b c : Bool) → cond b true c ≡ (b || c)
or-cond true c = refl
or-cond false c = refl

-- the same of a set
pub set_insert-shown : (old new : List (List ℕ)) (k : List ℕ)
    → ((q : List ℕ) → list_any (is_at (name_cmp q)) new ≡ cond (is_at (name_cmp k) q) true (list_any (is_at (name_cmp q)) old))
    → set.from_list {R = name_cmp} new ≡ set.insert (set.from_list old) k
set_insert-shown old new k updates =
    set.same_set names_total names_apart _ _ (λ q.
    contains-shown new q
    ∙ updates q
    ∙ or-cond (eq_by_cmp name_cmp k q) (list_any (is_at (name_cmp q)) old)
    ∙ ap (λ b. b || list_any (is_at (name_cmp q)) old) ((eq_by_cmp_equiv names_total).symm k q)
    ∙ ap (λ b. eq_by_cmp name_cmp q k || b) (sym (contains-shown old q))
    ∙ sym (set.contains-insert names_total _ k q))

not_twice : (b : Bool) → b ≡ not (not b)
not_twice true = refl
not_twice false = refl

-- what `insert` found, as `is_none` tells it
pub new-shown : {X : Type 0} (es : List (List ℕ × X)) (q : List ℕ) (o : Option X) (new : Bool) → o ≡ lookup (is_at (name_cmp q)) es → is_some o ≡ not new
    → new ≡ not (is_some (map.get (map.from_entries {R = name_cmp} es) q))
new-shown es q o new found tells = not_twice new ∙ ap not (sym (ap is_some (get-shown es q ∙ sym found) ∙ tells))

-- ---- by membership
-- names that tie are one
pub decides_name : (a b : List ℕ) → Decides (eq_by_cmp name_cmp a b) (a ≡ b)
decides_name a b = (same_name a b, λ e. ap (eq_by_cmp name_cmp a) (sym e) ∙ ties_with_itself a)

pub names_equiv : IsEquivalence (eq_by_cmp name_cmp)
names_equiv = eq_by_cmp_equiv names_total

-- a name is in the set exactly if it is in the list
pub contains-Decides : (ks : List (List ℕ)) (q : List ℕ) → Decides (set.contains (set.from_list {R = name_cmp} ks) q) (Contains ks q)
contains-Decides ks q =
    (λ has. Contains-from_any same_name q ks (sym (contains-shown ks q) ∙ has), λ among. contains-shown ks q ∙ list_any-from_Contains names_equiv q ks among)

-- a name has a value exactly if they are an entry, where the names differ
pub get_found : {X : Type 0} (es : List (List ℕ × X)) (q : List ℕ) (v : X) → map.get (map.from_entries {R = name_cmp} es) q ≡ Some v → Contains es (q, v)
get_found es q v at = Contains-from_lookup same_name q v es (sym (get-shown es q) ∙ at)

pub get_entry : {X : Type 0} (es : List (List ℕ × X)) → IsDistinct (eq_by_cmp name_cmp) (keys_of es) → (q : List ℕ) (v : X) → Contains es (q, v) → map.get (map.from_entries {R = name_cmp} es) q ≡ Some v
get_entry es once q v among = get-shown es q ∙ lookup-from_Contains names_equiv q v es once among

if_some : {X : Type 0} (P : X → Type 0) (o : Option X) → ((x : X) → o ≡ Some x → P x) → IfSome o P
if_some P None each = tt
if_some P (Some x) each = each x refl

-- what holds of each value of the entries holds of each that a look-up finds, and the other way round
pub each_found : {X : Type 0} (P : X → Type 0) (es : List (List ℕ × X)) → All P (values_of es) → (q : List ℕ) (v : X) → map.get (map.from_entries {R = name_cmp} es) q ≡ Some v → P v
each_found P es all q v at = subst (λ o. IfSome o P) (sym (get-shown es q) ∙ at) (IfSome-lookup_from_All P (is_at (name_cmp q)) es all)

pub all_values : {X : Type 0} (P : X → Type 0) (es : List (List ℕ × X)) → IsDistinct (eq_by_cmp name_cmp) (keys_of es)
    → ((q : List ℕ) (v : X) → map.get (map.from_entries {R = name_cmp} es) q ≡ Some v → P v) → All P (values_of es)
all_values P es once each = All-values_from_lookup names_equiv P es once (λ q. if_some P _ (λ v at. each q v (get-shown es q ∙ at)))
