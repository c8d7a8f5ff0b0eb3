-- The hold table has the vehicle whose footprint has the node or edge.
use Rattle.std.proofs.Common.{◌≡◌, ◌↔◌, ◌||◌, Bool, true, false, cond, List, [], ◌∷◌, map, Some, None, refl, sym, ap, ◌∙◌}
use Rattle.std.specs.Cmp.{eq_by_cmp_equiv}
use Rattle.std.specs.FinMap.{get, find}
use Rattle.std.specs.List.{Contains}
use Rattle.std.specs.Ordering.{eq_by_cmp}
use Rattle.std.proofs.lemmas.Map.Views.{Contains-from_any, list_any-from_Contains}
use Rattle.agv_header.specs.Key.{thing_cmp}
use Rattle.agv_header.specs.KeyOrder.{key_cmp-total, key_cmp-IsAntisymmetric}
use Rattle.agv_header.specs.ThingOrder.{thing_cmp-total, thing_cmp-IsAntisymmetric}
use Rattle.agv_header.specs.declared.key.Thing.{Thing}
use Rattle.agv_header.specs.declared.key.VehicleKey.{VehicleKey}
use Rattle.agv_track_holds.specs.Footprints.{footprint_of}
use Rattle.agv_track_holds.specs.Holds.{is_in}
use Rattle.agv_world_core.specs.ConsistentTrips.{IsHolder, SharesNothing}
use Rattle.agv_world_core.specs.Maps.{maps_of, hold_rows, standing_of}
use Rattle.agv_world_core.specs.Worlds.{Vehicle, World}
use Rattle.agv_world_core.proofs.lists.Entries.{no_more, same_Some, is_same}
use Rattle.agv_world_core.proofs.world_rows.Spreads.{IsApart, IsSpread, spread_is}

pub find-run : (key : VehicleKey) (q : Thing) (things : List Thing) → find thing_cmp q (map (λ thing. (thing, key)) things) ≡ cond (is_in q things) (Some key) None
find-run key q [] = refl
find-run key q (thing ∷ things) = elim (eq_by_cmp thing_cmp q thing) as (λ b. cond b (Some key) (find thing_cmp q (map (λ other. (other, key)) things)) ≡ cond (b || is_in q things) (Some key) None) [
  | true ↦ refl
  | false ↦ find-run key q things
]

if_has : (b : Bool) (v y : VehicleKey) → cond b (Some v) None ≡ Some y → (b ≡ true) × (y ≡ v)
if_has true v y e = (refl, sym (same_Some v y e))
if_has false v y e = absurd (no_more y e)

pub held_at : (key : VehicleKey) (vehicle : Vehicle) (q : Thing) (y : VehicleKey) → find thing_cmp q (hold_rows key vehicle) ≡ Some y → Contains (footprint_of (standing_of vehicle)) q × (y ≡ key)
held_at key vehicle q y e =
    let told = if_has (is_in q (footprint_of (standing_of vehicle))) key y (sym (find-run key q (footprint_of (standing_of vehicle))) ∙ e) in
    (Contains-from_any (is_same thing_cmp-IsAntisymmetric) q _ told.0, told.1)

pub held : (key : VehicleKey) (vehicle : Vehicle) (q : Thing) → Contains (footprint_of (standing_of vehicle)) q → find thing_cmp q (hold_rows key vehicle) ≡ Some key
held key vehicle q among =
    find-run key q (footprint_of (standing_of vehicle)) ∙ ap (λ b. cond b (Some key) None) (list_any-from_Contains (eq_by_cmp_equiv thing_cmp-total) q _ among)

module _ (world : World) (shares : SharesNothing world) where
  pub holds_apart : IsApart thing_cmp hold_rows world.vehicles
  holds_apart k l x z q y w g h f e = shares k l q (x, g, (held_at k x q y f).0) (z, h, (held_at l z q w e).0)

  pub holds_are : IsSpread thing_cmp hold_rows world.vehicles
  holds_are = spread_is key_cmp-total key_cmp-IsAntisymmetric thing_cmp thing_cmp-total hold_rows world.vehicles holds_apart

-- the row of a node or edge has its holder
pub holder_is : (world : World) → SharesNothing world → (thing : Thing) (key : VehicleKey) → (get (maps_of world).holds thing ≡ Some key) ↔ IsHolder world key thing
holder_is world shares thing key = (
  λ e. let f = (holds_are world shares).from thing key e in let told = held_at f.0 f.1 thing key f.3 in (f.1, ap (get world.vehicles) told.1 ∙ f.2, told.0),
  λ is. (holds_are world shares).into key is.0 thing key is.1 (held key is.0 thing is.2),
)
