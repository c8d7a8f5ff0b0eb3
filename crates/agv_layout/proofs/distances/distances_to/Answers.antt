use Rattle.std.proofs.Common.{◌≡◌, ◌∙◌, ℕ, ◌+◌, ◌≤◌, Bool, true, false, cond, not, ◌&&◌, ◌||◌, ◌++◌, [], ◌∷◌, List, Some, None, Option, is_some, vec_len, sym, ap, subst, refl, arith}
use Rattle.std.specs.Option.{option_or}
use Rattle.std.specs.Map.{lookup}
use Rattle.std.proofs.lemmas.Bool.Decides.{nat_tests}
use Rattle.std.proofs.lemmas.List.{nil_from_length}
use Rattle.std.specs.BTreeMap.{get, is_at, btree_map_len}
use Rattle.std.specs.BTreeSet.{contains}
use Rattle.agv_header.specs.Name.{name_cmp}
use Rattle.agv_layout.specs.Layout.{Name}
use Rattle.agv_layout.specs.Arrivals.{leads_to_one, Joins}
use Rattle.agv_layout.specs.LayoutOf.{is_among}
use Rattle.agv_layout.proofs.Maps.{same_name, ties_with_itself}
use Rattle.agv_layout.proofs.Joined.{IsOneFrom-leads, few_distances, known_next}
use Rattle.agv_layout.proofs.Levels.{IsUpTo-start, IsLevel-start, IsUpTo-next, IsLevel-next, AreDistances-empty}
use Rattle.agv_layout.proofs.distances.distances_to.Goals as goal

or-false : (b : Bool) → (b || false) ≡ b
or-false true = refl
or-false false = refl

known_start : (goal v : Name) (k : ℕ) (P : Name → Type 0) (here : Bool) → is_at (name_cmp goal) v ≡ here → P goal → cond here (Some 0) None ≡ Some k → P v
known_start goal v k P true e holds g = subst P (same_name goal v e) holds
known_start goal v k P false e holds g = cc

pub loop-alloc-init : goal.loop-alloc-init
loop-alloc-init c =
    let first : c.push.new.self.items ≡ c.args.goal ∷ [] = c.in_ok-push.ensures.items ∙ ap (λ (l : List Name). l ++ c.args.goal ∷ []) c.new-level.ensures.items in
    let none : (v : Name) → get name_cmp c.new-distances.result v ≡ None = λ v. ap (lookup (is_at (name_cmp v))) c.new-distances.ensures.empty in
    let begins : (v : Name) → get name_cmp c.insert.new.self v ≡ cond (is_at (name_cmp c.args.goal) v) (Some 0) None =
    λ v. c.in_ok-insert.ensures.updates.0 v ∙ ap (λ (o : Option ℕ). cond (is_at (name_cmp c.args.goal) v) (Some 0) o) (none v) in
    let known = λ (v : Name) (k : ℕ) (e : get name_cmp c.insert.new.self v ≡ Some k). known_start c.args.goal v k (λ n. contains name_cmp c.args.nodes.now n ≡ true) (is_at (name_cmp c.args.goal) v) refl c.requires.goal (sym (begins v) ∙ e) in
    let one : vec_len c.push.new.self ≡ 1 = omega (arith, c.in_ok-push.ensures.len, c.new-level.ensures.len) in
    let count : btree_map_len c.insert.new.self ≡ 1 = c.in_ok-insert.ensures.len ∙ ap (λ (o : Option ℕ). btree_map_len c.new-distances.result + cond (is_some o) 0 1) (c.in_ok-insert.ensures.old ∙ none c.args.goal) ∙ ap (λ n. n + 1) c.new-distances.ensures.len in (
      IsUpTo-start (Joins c.args.edges.now) c.args.goal (get name_cmp c.insert.new.self) (is_at (name_cmp c.args.goal)) (same_name c.args.goal) (ties_with_itself c.args.goal) begins,
      IsLevel-start (Joins c.args.edges.now) c.args.goal (get name_cmp c.insert.new.self) (is_at (name_cmp c.args.goal)) (same_name c.args.goal) (ties_with_itself c.args.goal) begins (is_among c.push.new.self.items) (λ v. ap (λ l. is_among l v) first ∙ or-false (is_at (name_cmp c.args.goal) v)),
      known,
      omega (arith, one, count),
      few_distances c.insert.new.self c.args.nodes.now c.insert.ensures.ordered known,
      c.insert.ensures.ordered,
    )

pub loop-alloc-preserved : goal.loop-alloc-preserved
loop-alloc-preserved c =
    let h = c.loop-alloc.invariant in
    let one = λ (v : Name). leads_to_one c.in_ok-arrivals.arrivals v c.loop-alloc.level.items in
    let from = IsOneFrom-leads c.args.edges.now c.in_ok-arrivals.arrivals c.args.goal c.loop-alloc.level.items c.in_ok-arrivals.ensures.all c.in_ok-arrivals.ensures.found in
    let next = subst (λ l. (v : Name) → get name_cmp c.next_level.new.distances v ≡ option_or (get name_cmp c.loop-alloc.distances v) (cond (leads_to_one c.in_ok-arrivals.arrivals v l) (Some (c.loop-alloc.hops + 1)) None)) c.deref.ensures.value c.in_ok-level.ensures.distances in
    let found = subst (λ l. (v : Name) → is_among c.in_ok-level.level.items v ≡ (not (is_some (get name_cmp c.loop-alloc.distances v)) && leads_to_one c.in_ok-arrivals.arrivals v l)) c.deref.ensures.value c.in_ok-level.ensures.found in
    let known = known_next c.args.edges.now c.in_ok-arrivals.arrivals c.args.goal c.loop-alloc.level.items c.args.nodes.now (c.loop-alloc.hops + 1) c.loop-alloc.distances c.next_level.new.distances from c.requires.starts next h.2 in
    let some : 1 ≤ vec_len c.loop-alloc.level = grind (arith, nat_tests, c.loop-alloc-test.ensures) in (
      IsUpTo-next (Joins c.args.edges.now) c.args.goal c.loop-alloc.hops (c.loop-alloc.hops + 1) (omega arith) (get name_cmp c.loop-alloc.distances) (get name_cmp c.next_level.new.distances) (is_among c.loop-alloc.level.items) one h.0 h.1 from next,
      IsLevel-next (Joins c.args.edges.now) c.args.goal c.loop-alloc.hops (c.loop-alloc.hops + 1) (omega arith) (get name_cmp c.loop-alloc.distances) (get name_cmp c.next_level.new.distances) (is_among c.loop-alloc.level.items) one h.0 h.1 from next (is_among c.in_ok-level.level.items) found,
      known,
      omega (arith, some, h.3, c.in_ok-level.ensures.count),
      few_distances c.next_level.new.distances c.args.nodes.now (c.in_ok-level.ensures.ordered h.5) known,
      c.in_ok-level.ensures.ordered h.5,
    )

pub loop-alloc-smaller : goal.loop-alloc-smaller
loop-alloc-smaller c =
    let h = c.loop-alloc.invariant in
    let from = IsOneFrom-leads c.args.edges.now c.in_ok-arrivals.arrivals c.args.goal c.loop-alloc.level.items c.in_ok-arrivals.ensures.all c.in_ok-arrivals.ensures.found in
    let next = subst (λ l. (v : Name) → get name_cmp c.next_level.new.distances v ≡ option_or (get name_cmp c.loop-alloc.distances v) (cond (leads_to_one c.in_ok-arrivals.arrivals v l) (Some (c.loop-alloc.hops + 1)) None)) c.deref.ensures.value c.in_ok-level.ensures.distances in
    let known = known_next c.args.edges.now c.in_ok-arrivals.arrivals c.args.goal c.loop-alloc.level.items c.args.nodes.now (c.loop-alloc.hops + 1) c.loop-alloc.distances c.next_level.new.distances from c.requires.starts next h.2 in
    let some : 1 ≤ vec_len c.loop-alloc.level = grind (arith, nat_tests, c.loop-alloc-test.ensures) in
    let few = few_distances c.next_level.new.distances c.args.nodes.now (c.in_ok-level.ensures.ordered h.5) known in
    omega (arith, some, few, c.in_ok-level.ensures.count)

pub returns : goal.returns
returns c =
    let h = c.loop-alloc.invariant in
    let empty : vec_len c.loop-alloc.level ≡ 0 = grind (arith, nat_tests, c.loop-alloc-test.ensures) in
    AreDistances-empty (Joins c.args.edges.now) c.args.goal c.loop-alloc.hops (get name_cmp c.loop-alloc.distances) (is_among c.loop-alloc.level.items) h.0 h.1 (λ v. ap (λ l. is_among l v) (nil_from_length c.loop-alloc.level.items (sym c.loop-alloc.level.ok.0 ∙ empty)))
