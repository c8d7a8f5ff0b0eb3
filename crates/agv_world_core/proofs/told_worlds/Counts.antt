-- How many there are in the world that the tables tell.
use Rattle.std.proofs.Common.{◌≡◌, ℕ, ◌&&◌, true, false, cond, T, subst, List, [], ◌∷◌, map, length, refl, sym, ap, ◌∙◌}
use Rattle.std.specs.declared.cmp.Ordering.TheVariants.{Less}
use Rattle.std.specs.FinMap as finite
use Rattle.std.specs.FinMap.Entries.{below_all, is_sorted}
use Rattle.std.specs.FinSet as set
use Rattle.std.specs.List.{AllByRecursion, filter}
use Rattle.std.specs.List.Sorted.{IsStrictlySortedBy}
use Rattle.std.specs.Ordering.{is_lt}
use Rattle.std.proofs.lemmas.List.{length-map}
use Rattle.agv_header.specs.Key.{key_cmp}
use Rattle.agv_header.specs.KeyOrder.{key_cmp-total, key_cmp-IsAntisymmetric}
use Rattle.agv_header.specs.Name.{name_cmp}
use Rattle.agv_header.specs.declared.key.VehicleKey.{VehicleKey}
use Rattle.agv_world_core.specs.KeyOrders.{use_cmp-total}
use Rattle.agv_world_core.specs.Keys.{use_cmp}
use Rattle.agv_world_core.specs.Told.{is_of_kind, names_in, names_of, vehicles_in, vehicles_of}
use Rattle.agv_world_core.specs.declared.key.UseKey.{UseKey}
use Rattle.agv_world_core.specs.declared.key.UseKind.{UseKind}
use Rattle.agv_world_core.specs.declared.key.UseKind.TheVariants.{Order, Reference}
use Rattle.agv_world_core.specs.declared.row.VehicleRow.{VehicleRow}
use Rattle.agv_world_core.specs.declared.world.World.{World as Tables}
use Rattle.agv_world_core.proofs.lists.InOrder.{entries-sorted, set_len-shown}
use Rattle.agv_world_core.proofs.lists.Orders.{names_total, names_apart}
use Rattle.agv_world_core.proofs.told_worlds.Telling.{any-names_in, used_at}

-- ---- vehicles
module _ (tables : Tables) where
  below-vehicles_in : (key : VehicleKey) (es : List (VehicleKey × VehicleRow)) → below_all key_cmp key (vehicles_in tables es) ≡ below_all key_cmp key es
  below-vehicles_in key [] = refl
  below-vehicles_in key (e ∷ es) = ap (λ b. is_lt (key_cmp key e.0) && b) (below-vehicles_in key es)

  sorted-vehicles_in : (es : List (VehicleKey × VehicleRow)) → is_sorted key_cmp (vehicles_in tables es) ≡ is_sorted key_cmp es
  sorted-vehicles_in [] = refl
  sorted-vehicles_in (e ∷ es) = λ i. below-vehicles_in e.0 es i && sorted-vehicles_in es i

  -- the vehicles stand in the order of their rows
  pub entries-vehicles_of : finite.entries (vehicles_of tables) ≡ vehicles_in tables (finite.entries tables.vehicles)
  unfolding vehicles_of
  entries-vehicles_of =
      entries-sorted key_cmp-total key_cmp-IsAntisymmetric _
      (subst T (sym (sorted-vehicles_in (finite.entries tables.vehicles))) (finite.entries_sorted tables.vehicles))

  pub len-vehicles_of : finite.len (vehicles_of tables) ≡ finite.len tables.vehicles
  len-vehicles_of =
      finite.len-entries (vehicles_of tables)
      ∙ ap length entries-vehicles_of
      ∙ length-map (finite.entries tables.vehicles) _
      ∙ sym (finite.len-entries tables.vehicles)

-- ---- used names
name-below : (kind one other : UseKind) (name further : List ℕ) → is_of_kind kind (used_at one name) ≡ true → is_of_kind kind (used_at other further) ≡ true → use_cmp (used_at one name) (used_at other further) ≡ Less → name_cmp name further ≡ Less
name-below Order Order Order name further p q below = below
name-below Order Order Reference name further p q below = absurd (cc q)
name-below Order Reference other name further p q below = absurd (cc p)
name-below Reference Order other name further p q below = absurd (cc p)
name-below Reference Reference Order name further p q below = absurd (cc q)
name-below Reference Reference Reference name further p q below = below

module _ (kind : UseKind) where
  names-below : (key : UseKey) → is_of_kind kind key ≡ true → (keys : List UseKey) → AllByRecursion (λ y. use_cmp key y ≡ Less) keys → AllByRecursion (λ y. name_cmp key.name y ≡ Less) (names_in kind keys)
  names-below key is [] below = tt
  names-below key is (x ∷ keys) below =
      let rest = names-below key is keys below.1 in
      elim (is_of_kind kind x) as (λ b. is_of_kind kind x ≡ b → AllByRecursion (λ y. name_cmp key.name y ≡ Less) (map (λ (k : UseKey). k.name) (cond b (x ∷ filter (is_of_kind kind) keys) (filter (is_of_kind kind) keys)))) [
        | true ↦ λ too. (name-below kind key.kind x.kind key.name x.name is too below.0, rest)
        | false ↦ λ no. rest
      ] refl

  names-ordered : (keys : List UseKey) → IsStrictlySortedBy use_cmp keys → IsStrictlySortedBy name_cmp (names_in kind keys)
  unfolding IsStrictlySortedBy
  names-ordered [] ordered = tt
  names-ordered (x ∷ keys) ordered =
      let rest = names-ordered keys ordered.1 in
      elim (is_of_kind kind x) as (λ b. is_of_kind kind x ≡ b → IsStrictlySortedBy name_cmp (map (λ (k : UseKey). k.name) (cond b (x ∷ filter (is_of_kind kind) keys) (filter (is_of_kind kind) keys)))) [
        | true ↦ λ is. (names-below x is keys ordered.0, rest)
        | false ↦ λ no. rest
      ] refl

  -- the names of the kind, from the keys in order
  names-shown : (tables : Tables) (keys : List UseKey) → set.from_list keys ≡ tables.used → names_of tables kind ≡ set.from_list (names_in kind keys)
  unfolding names_of
  names-shown tables keys all =
      set.same_set names_total names_apart _ _ (λ name.
      set.contains-from_list names_total (names_in kind (set.items tables.used)) name
      ∙ any-names_in kind name (set.items tables.used)
      ∙ sym (set.contains-items tables.used (used_at kind name))
      ∙ ap (λ s. set.contains s (used_at kind name)) (sym all)
      ∙ set.contains-from_list use_cmp-total keys (used_at kind name)
      ∙ sym (any-names_in kind name keys)
      ∙ sym (set.contains-from_list names_total (names_in kind keys) name))

  pub len-names_of : (tables : Tables) (keys : List UseKey) → IsStrictlySortedBy use_cmp keys → set.from_list keys ≡ tables.used → set.len (names_of tables kind) ≡ length (filter (is_of_kind kind) keys)
  len-names_of tables keys ordered all =
      ap set.len (names-shown tables keys all)
      ∙ set_len-shown names_total (names_in kind keys) (names-ordered keys ordered)
      ∙ length-map (filter (is_of_kind kind) keys) _
