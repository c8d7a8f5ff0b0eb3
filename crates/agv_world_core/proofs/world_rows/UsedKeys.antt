-- The table of used names has just the orders and the references that were used.
use Rattle.std.proofs.Common.{◌≡◌, ◌||◌, ℕ, Bool, true, false, List, [], ◌∷◌, ◌++◌, map, refl, sym, ap, ◌∙◌}
use Rattle.std.specs.FinSet as set
use Rattle.std.specs.List.{list_any}
use Rattle.std.specs.Ordering.{eq_by_cmp}
use Rattle.agv_header.specs.Name.{name_cmp}
use Rattle.agv_world_core.specs.KeyOrders.{use_cmp-total, use_cmp-IsAntisymmetric}
use Rattle.agv_world_core.specs.Keys.{use_cmp}
use Rattle.agv_world_core.specs.Questions.{is_used}
use Rattle.agv_world_core.specs.Maps.{maps_of, used_names}
use Rattle.agv_world_core.specs.TableChanges.{with_use}
use Rattle.agv_world_core.specs.Worlds.{World}
use Rattle.agv_world_core.specs.declared.key.UseKey.{UseKey}
use Rattle.agv_world_core.specs.declared.key.UseKind.{UseKind}
use Rattle.agv_world_core.specs.declared.key.UseKind.TheVariants.{Order, Reference}
use Rattle.agv_world_core.proofs.lists.Orders.{names_total}

abbrev pub order_key : List ℕ → UseKey
order_key name = record { kind = Order; name = name }

abbrev pub reference_key : List ℕ → UseKey
reference_key name = record { kind = Reference; name = name }

abbrev any_used : UseKey → List UseKey → Bool
any_used key keys = list_any (eq_by_cmp use_cmp key) keys

pub or_none : (b : Bool) → (b || false) ≡ b
or_none true = refl
or_none false = refl

any-append : (key : UseKey) (xs ys : List UseKey) → any_used key (xs ++ ys) ≡ (any_used key xs || any_used key ys)
any-append key [] ys = refl
any-append key (x ∷ xs) ys = elim (eq_by_cmp use_cmp key x) as (λ b. (b || any_used key (xs ++ ys)) ≡ ((b || any_used key xs) || any_used key ys)) [
  | true ↦ refl
  | false ↦ any-append key xs ys
]

orders_any : (name : List ℕ) (names : List (List ℕ)) → any_used (order_key name) (map order_key names) ≡ list_any (eq_by_cmp name_cmp name) names
orders_any name [] = refl
orders_any name (x ∷ names) = ap (λ b. eq_by_cmp name_cmp name x || b) (orders_any name names)

orders_none : (name : List ℕ) (names : List (List ℕ)) → any_used (order_key name) (map reference_key names) ≡ false
orders_none name [] = refl
orders_none name (x ∷ names) = orders_none name names

references_any : (name : List ℕ) (names : List (List ℕ)) → any_used (reference_key name) (map reference_key names) ≡ list_any (eq_by_cmp name_cmp name) names
references_any name [] = refl
references_any name (x ∷ names) = ap (λ b. eq_by_cmp name_cmp name x || b) (references_any name names)

references_none : (name : List ℕ) (names : List (List ℕ)) → any_used (reference_key name) (map order_key names) ≡ false
references_none name [] = refl
references_none name (x ∷ names) = references_none name names

pub used_order : (world : World) (name : List ℕ) → set.contains (maps_of world).used (order_key name) ≡ set.contains world.orders name
used_order world name =
    set.contains-from_list use_cmp-total (used_names world) (order_key name)
    ∙ any-append (order_key name) (map order_key (set.items world.orders)) (map reference_key (set.items world.references))
    ∙ ap (λ b. any_used (order_key name) (map order_key (set.items world.orders)) || b) (orders_none name (set.items world.references))
    ∙ or_none _
    ∙ orders_any name (set.items world.orders)
    ∙ sym (set.contains-items world.orders name)

pub used_reference : (world : World) (name : List ℕ) → set.contains (maps_of world).used (reference_key name) ≡ set.contains world.references name
used_reference world name =
    set.contains-from_list use_cmp-total (used_names world) (reference_key name)
    ∙ any-append (reference_key name) (map order_key (set.items world.orders)) (map reference_key (set.items world.references))
    ∙ ap (λ b. b || any_used (reference_key name) (map reference_key (set.items world.references))) (references_none name (set.items world.orders))
    ∙ references_any name (set.items world.references)
    ∙ sym (set.contains-items world.references name)

-- the table has a name just where it was used
pub used_is : (world : World) (kind : UseKind) (name : List ℕ) → set.contains (maps_of world).used (record { kind = kind; name = name }) ≡ is_used world kind name
unfolding is_used
used_is world Order name = used_order world name
used_is world Reference name = used_reference world name

one_more : (world : World) (kind other : UseKind) (name q : List ℕ) → (eq_by_cmp use_cmp (record { kind = other; name = q }) (record { kind = kind; name = name }) || is_used world other q) ≡ is_used (with_use world kind name) other q
unfolding is_used
one_more world Order Order name q = sym (set.contains-insert names_total world.orders name q)
one_more world Order Reference name q = refl
one_more world Reference Order name q = refl
one_more world Reference Reference name q = sym (set.contains-insert names_total world.references name q)

-- one name more that was used
pub used_now : (world : World) (key : UseKey) → set.insert (maps_of world).used key ≡ (maps_of (with_use world key.kind key.name)).used
used_now world key = set.same_set use_cmp-total use_cmp-IsAntisymmetric (set.insert (maps_of world).used key) (maps_of (with_use world key.kind key.name)).used (λ q.
    set.contains-insert use_cmp-total (maps_of world).used key q
    ∙ ap (λ b. eq_by_cmp use_cmp q key || b) (used_is world q.kind q.name)
    ∙ one_more world key.kind q.kind key.name q.name
    ∙ sym (used_is (with_use world key.kind key.name) q.kind q.name))
