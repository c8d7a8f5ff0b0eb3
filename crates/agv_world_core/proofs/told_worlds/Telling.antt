-- What the world that the tables tell has at a key.
use Rattle.std.proofs.Common.{◌≡◌, ℕ, ◌&&◌, ◌||◌, nat_eq, Bool, true, false, cond, List, [], ◌∷◌, map, Option, option_map, is_some, Some, None, refl, sym, ap, ◌∙◌}
use Rattle.std.specs.FinMap.{get, find, entries, get-entries, get-from_entries}
use Rattle.std.specs.FinSet as set
use Rattle.std.specs.List.{filter, list_any}
use Rattle.std.specs.Option.{option_and_then}
use Rattle.std.specs.Ordering.{eq_by_cmp}
use Rattle.agv_header.specs.Key.{key_cmp}
use Rattle.agv_header.specs.KeyOrder.{key_cmp-total, key_cmp-IsAntisymmetric}
use Rattle.agv_header.specs.Name.{name_cmp}
use Rattle.agv_header.specs.declared.key.VehicleKey.{VehicleKey}
use Rattle.agv_world_core.specs.Keys.{use_cmp, use_rank}
use Rattle.agv_world_core.specs.Questions.{row_of, trip_of, is_used}
use Rattle.agv_world_core.specs.Told.{is_of_kind, names_in, names_of, open_trip, vehicle_in, vehicles_in, vehicles_of, world_of}
use Rattle.agv_world_core.specs.Worlds.{Vehicle}
use Rattle.agv_world_core.specs.declared.key.UseKey.{UseKey}
use Rattle.agv_world_core.specs.declared.key.UseKind.{UseKind}
use Rattle.agv_world_core.specs.declared.key.UseKind.TheVariants.{Order, Reference}
use Rattle.agv_world_core.specs.declared.row.VehicleRow.{VehicleRow}
use Rattle.agv_world_core.specs.declared.world.World.{World as Tables}
use Rattle.agv_world_core.proofs.lists.Entries.{is_same}
use Rattle.agv_world_core.proofs.lists.Orders.{names_total}

-- ---- vehicles
find-vehicles_in : (tables : Tables) (q : VehicleKey) (es : List (VehicleKey × VehicleRow)) → find key_cmp q (vehicles_in tables es) ≡ option_map (vehicle_in tables q) (find key_cmp q es)
find-vehicles_in tables q [] = refl
find-vehicles_in tables q (e ∷ es) =
    elim (eq_by_cmp key_cmp q e.0) as (λ b. eq_by_cmp key_cmp q e.0 ≡ b → cond b (Some (vehicle_in tables e.0 e.1)) (find key_cmp q (vehicles_in tables es)) ≡ option_map (vehicle_in tables q) (cond b (Some e.1) (find key_cmp q es))) [
      | true ↦ λ tied. ap (λ k. Some (vehicle_in tables k e.1)) (sym (is_same key_cmp-IsAntisymmetric q e.0 tied))
      | false ↦ λ tied. find-vehicles_in tables q es
    ] refl

-- a vehicle has its row, and its trip
pub get-vehicles_of : (tables : Tables) (key : VehicleKey) → get (vehicles_of tables) key ≡ option_map (vehicle_in tables key) (get tables.vehicles key)
unfolding vehicles_of
get-vehicles_of tables key =
    get-from_entries key_cmp-total (vehicles_in tables (entries tables.vehicles)) key
    ∙ find-vehicles_in tables key (entries tables.vehicles)
    ∙ ap (option_map (vehicle_in tables key)) (sym (get-entries tables.vehicles key))

-- ---- used names
abbrev pub used_at : UseKind → List ℕ → UseKey
used_at kind name = record { kind = kind; name = name }

tied-used : (kind other : UseKind) (name further : List ℕ) → eq_by_cmp use_cmp (used_at kind name) (used_at other further) ≡ (nat_eq (use_rank other) (use_rank kind) && eq_by_cmp name_cmp name further)
tied-used Order Order name further = refl
tied-used Order Reference name further = refl
tied-used Reference Order name further = refl
tied-used Reference Reference name further = refl

any-chosen : (b : Bool) (p : List ℕ → Bool) (key : UseKey) (keys : List UseKey) → list_any p (map (λ (k : UseKey). k.name) (cond b (key ∷ keys) keys)) ≡ ((b && p key.name) || list_any p (map (λ (k : UseKey). k.name) keys))
any-chosen true p key keys = refl
any-chosen false p key keys = refl

-- the names in a kind have those that the keys have in it
pub any-names_in : (kind : UseKind) (name : List ℕ) (keys : List UseKey) → list_any (eq_by_cmp name_cmp name) (names_in kind keys) ≡ list_any (eq_by_cmp use_cmp (used_at kind name)) keys
any-names_in kind name [] = refl
any-names_in kind name (key ∷ keys) =
    any-chosen (is_of_kind kind key) (eq_by_cmp name_cmp name) key (filter (is_of_kind kind) keys)
    ∙ ap (λ b. b || list_any (eq_by_cmp name_cmp name) (names_in kind keys)) (sym (tied-used kind key.kind name key.name))
    ∙ ap (λ b. eq_by_cmp use_cmp (used_at kind name) key || b) (any-names_in kind name keys)

pub contains-names_of : (tables : Tables) (kind : UseKind) (name : List ℕ) → set.contains (names_of tables kind) name ≡ set.contains tables.used (used_at kind name)
unfolding names_of
contains-names_of tables kind name =
    set.contains-from_list names_total (names_in kind (set.items tables.used)) name
    ∙ any-names_in kind name (set.items tables.used)
    ∙ sym (set.contains-items tables.used (used_at kind name))

-- ---- the questions by key
rows-again : (tables : Tables) (key : VehicleKey) (row : Option VehicleRow) → option_map (λ (vehicle : Vehicle). vehicle.row) (option_map (vehicle_in tables key) row) ≡ row
rows-again tables key None = refl
rows-again tables key (Some row) = refl

pub row_of-told : (tables : Tables) (key : VehicleKey) → row_of (world_of tables) key ≡ get tables.vehicles key
row_of-told tables key = ap (option_map (λ (vehicle : Vehicle). vehicle.row)) (get-vehicles_of tables key) ∙ rows-again tables key (get tables.vehicles key)

pub is_used-told : (tables : Tables) (kind : UseKind) (name : List ℕ) → is_used (world_of tables) kind name ≡ set.contains tables.used (used_at kind name)
unfolding is_used
is_used-told tables Order name = contains-names_of tables Order name
is_used-told tables Reference name = contains-names_of tables Reference name

module _ (tables : Tables) (key : VehicleKey) where
  trips-again : (row : Option VehicleRow) → option_and_then (λ (vehicle : Vehicle). vehicle.trip) (option_map (vehicle_in tables key) row) ≡ cond (is_some row) (open_trip tables key) None
  trips-again None = refl
  trips-again (Some row) = refl

  -- the trip of a vehicle, where there is the vehicle
  pub trip_of-told : (row : Option VehicleRow) → row ≡ row_of (world_of tables) key → trip_of (world_of tables) key ≡ cond (is_some row) (open_trip tables key) None
  trip_of-told row is =
      ap (option_and_then (λ (vehicle : Vehicle). vehicle.trip)) (get-vehicles_of tables key)
      ∙ trips-again (get tables.vehicles key)
      ∙ ap (λ (r : Option VehicleRow). cond (is_some r) (open_trip tables key) None) (sym (row_of-told tables key) ∙ sym is)
