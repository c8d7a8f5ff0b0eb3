-- Tables of holds that agree with footprints: each vehicle holds exactly the things that it needs.
use Rattle.std.specs.Prelude.{◌≡◌, ◌↔◌, not, IsTrue, if◌then◌else◌, List, Some, filter}
use Rattle.std.specs.FinMap.{get}
use Rattle.agv_header.specs.KeyOrder.{key_eq}
use Rattle.agv_header.specs.declared.key.Thing.{Thing}
use Rattle.agv_header.specs.declared.key.VehicleKey.{VehicleKey}
use Rattle.agv_track_holds.specs.Holds.{Holds, is_in}

-- the things that each vehicle needs: its footprint
abbrev pub Footprints : Type 0
Footprints = VehicleKey → List Thing

-- a vehicle holds a thing exactly if the thing is in its footprint; so no thing is in two vehicles' footprints
abbrev pub HoldsFootprints : Holds → Footprints → Type 0
HoldsFootprints table footprint_of = (thing : Thing) (key : VehicleKey) → (get table thing ≡ Some key) ↔ IsTrue (is_in thing (footprint_of key))

-- the footprints, with a new one for one vehicle
abbrev pub with_footprint : Footprints → VehicleKey → List Thing → Footprints
with_footprint footprint_of key next other = if key_eq other key then next else footprint_of other

-- the things of the new list that are not in the old one
abbrev pub gained : List Thing → List Thing → List Thing
gained old new = filter (λ thing. not (is_in thing old)) new
