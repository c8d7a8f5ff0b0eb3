-- That the starts of edges by their finishes say which nodes the edges join; how many distances there can be.
use Rattle.std.proofs.Common.{◌≡◌, ◌⊎◌, inl, inr, ⊎_elim, ℕ, ◌+◌, ◌≤◌, Bool, true, false, cond, ◌||◌, ◌&&◌, Option, Some, None, is_some, List, [], ◌∷◌, length, refl, sym, ap, subst, ◌∙◌, true≢false, arith}
use Rattle.std.specs.List.{list_any, All}
use Rattle.std.specs.Ordering.{eq_by_cmp}
use Rattle.std.specs.Option.{unwrap_or, option_or}
use Rattle.std.specs.declared.vec.Vec.{Vec}
use Rattle.std.specs.FinSet as set
use Rattle.std.specs.Map.{lookup, keys_of}
use Rattle.std.specs.Set.{is_member, unique_keys}
use Rattle.std.specs.BTreeMap.{BTreeMap, is_at, get, btree_map_len, IsOrdered}
use Rattle.std.specs.BTreeSet.{BTreeSet, contains}
use Rattle.std.specs.Cmp.{eq_by_cmp_equiv}
use Rattle.std.proofs.lemmas.Bool.{and_parts}
use Rattle.std.proofs.lemmas.List.{length-map}
use Rattle.std.proofs.lemmas.List.Elements.{All-head, All-tail}
use Rattle.std.proofs.lemmas.Map.Keys.{IsDistinct-from_sorted}
use Rattle.std.proofs.lemmas.Map.Made.{length-le_from_is_member, is_some-lookup}
use Rattle.agv_header.specs.Name.{name_cmp}
use Rattle.agv_layout.specs.declared.edge.EdgeEnds.{EdgeEnds}
use Rattle.agv_layout.specs.Layout.{Name}
use Rattle.agv_layout.specs.Arrivals.{leads, leads_to_one, is_so, Joins}
use Rattle.agv_layout.specs.LayoutOf.{is_among}
use Rattle.agv_layout.proofs.Maps.{names_total, same_name, ties_with_itself, contains-shown}
use Rattle.agv_layout.proofs.Levels.{IsOneFrom}

or_true : (b : Bool) → (b || true) ≡ true
or_true true = refl
or_true false = refl

-- ---- names among others
pub any_of_among : (p : Name → Bool) (names : List Name) (q : Name) → is_among names q ≡ true → p q ≡ true → list_any p names ≡ true
any_of_among p [] q h e = h
any_of_among p (x ∷ xs) q h e =
    elim (is_at (name_cmp x) q) as (λ b. is_at (name_cmp x) q ≡ b → (b || is_among xs q) ≡ true → (p x || list_any p xs) ≡ true) [
      | true ↦ λ here _. ap (λ b. b || list_any p xs) (ap p (same_name x q here) ∙ e)
      | false ↦ λ _ there. ap (λ b. p x || b) (any_of_among p xs q there e) ∙ or_true (p x)
    ] refl h

pub among_of_any : (p : Name → Bool) (names : List Name) → list_any p names ≡ true → (q : Name) × (is_among names q ≡ true) × (p q ≡ true)
among_of_any p [] h = absurd (true≢false (sym h))
among_of_any p (x ∷ xs) h =
    elim (p x) as (λ b. p x ≡ b → (b || list_any p xs) ≡ true → (q : Name) × (is_among (x ∷ xs) q ≡ true) × (p q ≡ true)) [
      | true ↦ λ here _. (x, ap (λ b. b || is_among xs x) (ties_with_itself x), here)
      | false ↦ λ _ there. let rest = among_of_any p xs there in (rest.0, ap (λ b. is_at (name_cmp x) rest.0 || b) rest.1 ∙ or_true (is_at (name_cmp x) rest.0), rest.2)
    ] refl h

-- ---- edges
is_so-itself : (start finish : Name) (id : Name) (ends : EdgeEnds) → ends ≡ record { start = start; finish = finish } → is_so start finish (id, ends) ≡ true
is_so-itself start finish id ends e =
    ap (λ (x : EdgeEnds). is_at (name_cmp x.finish) finish && is_at (name_cmp x.start) start) e
    ∙ ap (λ b. b && is_at (name_cmp start) start) (ties_with_itself finish)
    ∙ ties_with_itself start

any_joined : (test : Name → Bool) (start finish : Name) (es : List (Name × EdgeEnds)) → lookup test es ≡ Some (record { start = start; finish = finish }) → list_any (is_so start finish) es ≡ true
any_joined test start finish [] h = cc
any_joined test start finish (e ∷ es) h =
    elim (test e.0) as (λ b. cond b (Some e.1) (lookup test es) ≡ Some (record { start = start; finish = finish }) → (is_so start finish e || list_any (is_so start finish) es) ≡ true) [
      | true ↦ λ found. ap (λ b. b || list_any (is_so start finish) es) (is_so-itself start finish e.0 e.1 (ap (λ o. unwrap_or o e.1) found))
      | false ↦ λ later. ap (λ b. is_so start finish e || b) (any_joined test start finish es later) ∙ or_true (is_so start finish e)
    ] h

joined_any : (edges : BTreeMap Name EdgeEnds) (start finish : Name) (es : List (Name × EdgeEnds)) → All (λ e. get name_cmp edges e.0 ≡ Some e.1) es → list_any (is_so start finish) es ≡ true → Joins edges start finish
joined_any edges start finish [] all h = absurd (true≢false (sym h))
joined_any edges start finish (e ∷ es) all h =
    elim (is_so start finish e) as (λ b. is_so start finish e ≡ b → (b || list_any (is_so start finish) es) ≡ true → Joins edges start finish) [
      | true ↦ λ here _.
          let ends = and_parts (is_at (name_cmp e.1.finish) finish) (is_at (name_cmp e.1.start) start) here in
          let to = same_name e.1.finish finish ends.0 in
          let from = same_name e.1.start start ends.1 in
          (e.0, All-head (λ (x : Name × EdgeEnds). get name_cmp edges x.0 ≡ Some x.1) e es all ∙ (λ i. Some (record { start = from i; finish = to i })))
      | false ↦ λ _ there. joined_any edges start finish es (All-tail (λ (x : Name × EdgeEnds). get name_cmp edges x.0 ≡ Some x.1) e es all) there
    ] refl h

-- ---- one step from a level
pub IsOneFrom-leads : {A : Type 0} (edges : BTreeMap Name EdgeEnds) (arrivals : BTreeMap Name (Vec Name A)) (goal : Name) (level : List Name) → ((start finish : Name) → leads arrivals start finish ≡ list_any (is_so start finish) edges.entries) → All (λ e. get name_cmp edges e.0 ≡ Some e.1) edges.entries → IsOneFrom (Joins edges) goal (is_among level) (λ start. leads_to_one arrivals start level)
IsOneFrom-leads edges arrivals goal level all found = record {
  has = λ start next among joins. any_of_among (leads arrivals start) level next among (all start next ∙ any_joined (is_at (name_cmp joins.0)) start next edges.entries joins.1);
  is = λ start one. let next = among_of_any (leads arrivals start) level one in (next.0, next.1, joined_any edges start next.0 edges.entries found (sym (all start next.0) ∙ next.2));
}

-- ---- how many distances there can be
some_of : {X : Type 0} (o : Option X) → is_some o ≡ true → (x : X) × (o ≡ Some x)
some_of None e = absurd (true≢false (sym e))
some_of (Some x) e = (x, refl)

abbrev once : List Name → List Name
once = unique_keys (eq_by_cmp name_cmp)

counted : (again : Bool) (n : ℕ) (x : Name) (names : List Name) → n ≡ length names → cond again n (n + 1) ≡ length (cond again names (x ∷ names))
counted true n x names e = e
counted false n x names e = omega (arith, e)

-- a set has as many names as the list without its repeats
set_len-once : (names : List Name) → set.len (set.from_list {R = name_cmp} names) ≡ length (once names)
set_len-once [] = set.len-empty name_cmp
set_len-once (x ∷ names) =
    set.len-insert names_total _ x
    ∙ ap (λ b. cond b (set.len (set.from_list {R = name_cmp} names)) (set.len (set.from_list {R = name_cmp} names) + 1)) (contains-shown names x)
    ∙ counted (is_member (eq_by_cmp name_cmp) names x) _ x (once names) (set_len-once names)

-- and it has each of them
still_there : (names : List Name) (q : Name) → is_member (eq_by_cmp name_cmp) names q ≡ true → is_member (eq_by_cmp name_cmp) (once names) q ≡ true
still_there [] q h = h
still_there (x ∷ names) q h =
    elim (is_member (eq_by_cmp name_cmp) names x) as (λ b. is_member (eq_by_cmp name_cmp) names x ≡ b → is_member (eq_by_cmp name_cmp) (cond b (once names) (x ∷ once names)) q ≡ true) [
      | true ↦ λ again.
          elim (eq_by_cmp name_cmp q x) as (λ t. eq_by_cmp name_cmp q x ≡ t → (t || is_member (eq_by_cmp name_cmp) names q) ≡ true → is_member (eq_by_cmp name_cmp) (once names) q ≡ true) [
            | true ↦ λ same _. still_there names q (subst (λ n. is_member (eq_by_cmp name_cmp) names n ≡ true) (sym (same_name q x same)) again)
            | false ↦ λ _ later. still_there names q later
          ] refl h
      | false ↦ λ _.
          elim (eq_by_cmp name_cmp q x) as (λ t. (t || is_member (eq_by_cmp name_cmp) names q) ≡ true → (t || is_member (eq_by_cmp name_cmp) (once names) q) ≡ true) [
            | true ↦ λ _. refl
            | false ↦ λ later. still_there names q later
          ] h
    ] refl

-- as many as nodes, at most
pub few_distances : {X : Type 0} (distances : BTreeMap Name X) (nodes : BTreeSet Name) → IsOrdered name_cmp distances → ((v : Name) (k : X) → get name_cmp distances v ≡ Some k → contains name_cmp nodes v ≡ true) → btree_map_len distances ≤ set.len (set.from_list {R = name_cmp} nodes.keys)
few_distances {X} distances nodes ordered known =
    let some = λ (q : Name) (member : is_member (eq_by_cmp name_cmp) (keys_of distances.entries) q ≡ true).
    let k = some_of (get name_cmp distances q) (is_some-lookup (is_at (name_cmp q)) distances.entries ∙ member) in
    still_there nodes.keys q (known q k.0 k.1) in
    let fit : length (keys_of distances.entries) ≤ length (once nodes.keys) = length-le_from_is_member (eq_by_cmp_equiv names_total) (keys_of distances.entries) (once nodes.keys) (IsDistinct-from_sorted name_cmp (keys_of distances.entries) ordered) some in
    omega (arith, fit, set_len-once nodes.keys, length-map distances.entries (λ (e : Name × X). e.0))

either : (was : Option ℕ) (one : Bool) (hops k : ℕ) → option_or was (cond one (Some hops) None) ≡ Some k → (was ≡ Some k) ⊎ (one ≡ true)
either (Some n) one hops k e = inl e
either None true hops k e = inr refl
either None false hops k e = cc

-- every node that has a distance is known, one level farther too
pub known_next : {A : Type 0} (edges : BTreeMap Name EdgeEnds) (arrivals : BTreeMap Name (Vec Name A)) (goal : Name) (level : List Name) (nodes : BTreeSet Name) (hops : ℕ) (old new : BTreeMap Name ℕ) → IsOneFrom (Joins edges) goal (is_among level) (λ start. leads_to_one arrivals start level) → ((id : Name) (ends : EdgeEnds) → get name_cmp edges id ≡ Some ends → contains name_cmp nodes ends.start ≡ true) → ((v : Name) → get name_cmp new v ≡ option_or (get name_cmp old v) (cond (leads_to_one arrivals v level) (Some hops) None)) → ((v : Name) (k : ℕ) → get name_cmp old v ≡ Some k → contains name_cmp nodes v ≡ true) → (v : Name) (k : ℕ) → get name_cmp new v ≡ Some k → contains name_cmp nodes v ≡ true
known_next edges arrivals goal level nodes hops old new from starts next known v k e =
    ⊎_elim
    (λ (was : get name_cmp old v ≡ Some k). known v k was)
    (λ (one : leads_to_one arrivals v level ≡ true). let joins = (from.is v one).2 in starts joins.0 _ joins.1)
    (either (get name_cmp old v) (leads_to_one arrivals v level) hops k (sym (next v) ∙ e))
