-- The maps of a world in which there is nothing.
use Rattle.std.proofs.Common.{◌≡◌, ◌||◌, true, false, List, [], ◌∷◌, Ordering, refl, sym, ap, ◌∙◌}
use Rattle.std.specs.Cmp.{IsTotalOrder}
use Rattle.std.specs.FinMap as finite
use Rattle.std.specs.FinSet as set
use Rattle.std.specs.List.{flat_map, list_any}
use Rattle.std.specs.Ordering.{eq_by_cmp, is_eq}
use Rattle.std.proofs.lemmas.Bool.{both_ways}
use Rattle.std.proofs.lemmas.Cmp.{tied_itself}
use Rattle.std.proofs.lemmas.List.{nil_from_length}
use Rattle.agv_header.specs.Name.{name_cmp}
use Rattle.agv_world_core.specs.Keys.{use_cmp}
use Rattle.agv_world_core.specs.Maps.{used_names}
use Rattle.agv_header.specs.Spread.{spread}
use Rattle.agv_world_core.specs.Worlds.{empty_world}
use Rattle.agv_world_core.proofs.lists.Orders.{names_total}

entries-empty : {K : Type 0} (R : K → K → Ordering) (X : Type 0) → finite.entries (finite.empty {X = X} {R = R}) ≡ []
entries-empty R X = nil_from_length _ (sym (finite.len-entries _) ∙ finite.len-empty R X)

-- no entries give no rows
pub spread-empty : {K X Q Y : Type 0} (R : K → K → Ordering) (S : Q → Q → Ordering) (rows_of : K → X → List (Q × Y)) → spread S rows_of (finite.empty {R = R}) ≡ finite.empty
unfolding spread
spread-empty {K} {X} R S rows_of = ap (λ es. finite.from_entries (flat_map (λ (entry : K × X). rows_of entry.0 entry.1) es)) (entries-empty R X)

no_items : {K : Type 0} {R : K → K → Ordering} → IsTotalOrder R → (xs : List K) → ((q : K) → list_any (eq_by_cmp R q) xs ≡ false) → xs ≡ []
no_items total [] none = refl
no_items {R} total (x ∷ xs) none =
    let tied : eq_by_cmp R x x ≡ true = ap is_eq (tied_itself total x) in
    absurd (both_ways (eq_by_cmp R x x || list_any (eq_by_cmp R x) xs) (none x) (ap (λ b. b || list_any (eq_by_cmp R x) xs) tied))

items-empty : set.items (set.empty {R = name_cmp}) ≡ []
items-empty = no_items names_total _ (λ q. sym (set.contains-items set.empty q) ∙ set.contains-empty name_cmp q)

-- no name is used
pub used-empty : set.from_list {R = use_cmp} (used_names empty_world) ≡ set.empty
used-empty = rw items-empty refl
