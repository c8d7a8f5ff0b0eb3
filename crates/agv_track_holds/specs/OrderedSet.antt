-- A list of distinct things together with the set of them, as the code keeps them. No public clause cites this.
use Rattle.std.specs.Prelude.{◌≡◌, if◌then◌else◌, List, [], ◌∷◌, ◌++◌}
use Rattle.std.specs.List.{list_any}
use Rattle.std.specs.BTreeSet.{contains}
use Rattle.agv_header.specs.Key.{thing_cmp}
use Rattle.agv_header.specs.ThingOrder.{thing_eq}
use Rattle.agv_header.specs.declared.key.Thing.{Thing}
use Rattle.agv_track_holds.specs.declared.ordered_set.OrderedSet.{OrderedSet}

-- the set has exactly the things of the list
abbrev pub KnowsAll : OrderedSet → Type 0
KnowsAll set = (q : Thing) → contains thing_cmp set.known q ≡ list_any (thing_eq q) set.things.items

-- the list with the thing added at its end, unless it has it already
abbrev pub with_thing : List Thing → Thing → List Thing
with_thing things thing = if list_any (thing_eq thing) things then things else (things ++ thing ∷ [])

-- the list with each of the things added, one after another
abbrev pub with_things : List Thing → List Thing → List Thing
with_things things [] = things
with_things things (thing ∷ more) = with_things (with_thing things thing) more
