-- What an effect leaves of the vehicles, the places and the used orders of a world.
use Rattle.std.proofs.Common.{◌≡◌, ◌≢◌, ◌⊎◌, inl, inr, ℕ, Bool, true, false, cond, is_eq, List, [], ◌∷◌, Option, None, Some, refl, sym, ap, ◌∙◌}
use Rattle.std.specs.Cmp.{Equal-is, tied_itself}
use Rattle.std.specs.Cmp.Lexicographic.{nat_list_cmp_total}
use Rattle.std.specs.FinMap as finite
use Rattle.std.specs.FinSet as set
use Rattle.std.specs.Ordering.{eq_by_cmp}
use Rattle.std.proofs.lemmas.Bool.{false≢true, or_right}
use Rattle.agv_header.specs.Key.{key_cmp}
use Rattle.agv_header.specs.KeyOrder.{key_cmp-total, key_cmp-IsAntisymmetric}
use Rattle.agv_header.specs.Name.{name_cmp}
use Rattle.agv_header.specs.declared.key.VehicleKey.{VehicleKey}
use Rattle.agv_layout.specs.Layout.{Layout}
use Rattle.agv_order.specs.declared.trip.Trip.{Trip}
use Rattle.agv_world_core.specs.TableChanges.{with_use}
use Rattle.agv_world_core.specs.Worlds.{Vehicle, World}
use Rattle.agv_world_core.specs.declared.key.UseKey.{UseKey}
use Rattle.agv_world_core.specs.declared.key.UseKind.{UseKind}
use Rattle.agv_world_core.specs.declared.key.UseKind.TheVariants.{Order, Reference}
use Rattle.agv_desk.specs.Outcomes.{Effect, VehicleChange, Nothing, RowOnly, Whole, moved, with_uses, with_touched, with_layout, with_effect}

-- the vehicle has the trip open, among these vehicles
abbrev pub HasTripIn : finite.FinMap key_cmp Vehicle → VehicleKey → Trip → Type 0
HasTripIn vehicles key trip = (vehicle : Vehicle) × (finite.get vehicles key ≡ Some vehicle) × (vehicle.trip ≡ Some trip)

-- ---- one vehicle written

-- a vehicle is the one that was written, or another one of before
pub which_vehicle : (vehicles : finite.FinMap key_cmp Vehicle) (key : VehicleKey) (new : Vehicle) (other : VehicleKey) (there : Option Vehicle) → finite.get (finite.insert vehicles key new) other ≡ there
    → ((other ≡ key) × (there ≡ Some new)) ⊎ ((other ≢ key) × (finite.get vehicles other ≡ there))
which_vehicle vehicles key new other there is = by_tie (eq_by_cmp key_cmp other key) refl (sym (finite.get-insert key_cmp-total vehicles key new other) ∙ is)
  where
    by_tie : (tie : Bool) → eq_by_cmp key_cmp other key ≡ tie → cond tie (Some new) (finite.get vehicles other) ≡ there
        → ((other ≡ key) × (there ≡ Some new)) ⊎ ((other ≢ key) × (finite.get vehicles other ≡ there))
    by_tie true ties e = inl (key_cmp-IsAntisymmetric other key ((Equal-is (key_cmp other key)).0 ties), sym e)
    by_tie false ties e = inr (λ same. false≢true (sym ties ∙ ap (eq_by_cmp key_cmp other) (sym same) ∙ ap is_eq (tied_itself key_cmp-total other)), e)

-- the vehicle that was written
pub written_vehicle : (vehicles : finite.FinMap key_cmp Vehicle) (key : VehicleKey) (new : Vehicle) → finite.get (finite.insert vehicles key new) key ≡ Some new
written_vehicle vehicles key new =
    finite.get-insert key_cmp-total vehicles key new key ∙ ap (λ tie. cond tie (Some new) (finite.get vehicles key)) (ap is_eq (tied_itself key_cmp-total key))

-- ---- used names

use_vehicles : (world : World) (kind : UseKind) (name : List ℕ) → (with_use world kind name).vehicles ≡ world.vehicles
use_vehicles world Order name = refl
use_vehicles world Reference name = refl

uses_vehicles : (uses : List UseKey) (world : World) → (with_uses world uses).vehicles ≡ world.vehicles
uses_vehicles [] world = refl
uses_vehicles (key ∷ uses) world = uses_vehicles uses (with_use world key.kind key.name) ∙ use_vehicles world key.kind key.name

use_places : (world : World) (kind : UseKind) (name : List ℕ) → (with_use world kind name).places ≡ world.places
use_places world Order name = refl
use_places world Reference name = refl

uses_places : (uses : List UseKey) (world : World) → (with_uses world uses).places ≡ world.places
uses_places [] world = refl
uses_places (key ∷ uses) world = uses_places uses (with_use world key.kind key.name) ∙ use_places world key.kind key.name

use_orders : (world : World) (kind : UseKind) (name order : List ℕ) → set.contains world.orders order ≡ true → set.contains (with_use world kind name).orders order ≡ true
use_orders world Order name order used = set.contains-insert nat_list_cmp_total world.orders name order ∙ or_right (eq_by_cmp name_cmp order name) (set.contains world.orders order) used
use_orders world Reference name order used = used

uses_orders : (uses : List UseKey) (world : World) (order : List ℕ) → set.contains world.orders order ≡ true → set.contains (with_uses world uses).orders order ≡ true
uses_orders [] world order used = used
uses_orders (key ∷ uses) world order used = uses_orders uses (with_use world key.kind key.name) order (use_orders world key.kind key.name order used)

-- ---- the layout and the vehicle

laid_vehicles : (world : World) (layout : Option Layout) (touched : VehicleChange) → (with_touched (with_layout world layout) touched).vehicles ≡ (with_touched world touched).vehicles
laid_vehicles world None touched = refl
laid_vehicles world (Some layout) Nothing = refl
laid_vehicles world (Some layout) (RowOnly key old row) = refl
laid_vehicles world (Some layout) (Whole key old new) = refl

laid_orders : (world : World) (layout : Option Layout) (touched : VehicleChange) → (with_touched (with_layout world layout) touched).orders ≡ world.orders
laid_orders world None Nothing = refl
laid_orders world None (RowOnly key old row) = refl
laid_orders world None (Whole key old new) = refl
laid_orders world (Some layout) Nothing = refl
laid_orders world (Some layout) (RowOnly key old row) = refl
laid_orders world (Some layout) (Whole key old new) = refl

laid_places : (world : World) (layout : Option Layout) (touched : VehicleChange) → (with_touched (with_layout world layout) touched).places ≡ world.places
laid_places world None Nothing = refl
laid_places world None (RowOnly key old row) = refl
laid_places world None (Whole key old new) = refl
laid_places world (Some layout) Nothing = refl
laid_places world (Some layout) (RowOnly key old row) = refl
laid_places world (Some layout) (Whole key old new) = refl

-- ---- the whole effect

module _ (world : World) (effect : Effect) where
  -- the vehicles are those after the vehicle was touched
  pub effect_vehicles : (with_effect world effect).vehicles ≡ (with_touched world effect.touched).vehicles
  effect_vehicles = uses_vehicles effect.uses _ ∙ laid_vehicles world effect.layout effect.touched

  -- the places are those that the moves leave
  pub effect_places : (with_effect world effect).places ≡ moved world.places effect.moves
  effect_places = uses_places effect.uses _ ∙ ap (λ places. moved places effect.moves) (laid_places world effect.layout effect.touched)

  -- used orders stay used
  pub effect_orders : (order : List ℕ) → set.contains world.orders order ≡ true → set.contains (with_effect world effect).orders order ≡ true
  effect_orders order used = uses_orders effect.uses _ order (ap (λ orders. set.contains orders order) (laid_orders world effect.layout effect.touched) ∙ used)
