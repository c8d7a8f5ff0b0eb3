-- The order of vehicles, by manufacturer and then by serial number, and of things, nodes before edges and then by name.
use Rattle.std.specs.Prelude.{ℕ, List}
use Rattle.std.specs.Ordering.{nat_cmp, ordering_then}
use Rattle.std.specs.declared.cmp.Ordering.{Ordering}
use Rattle.agv_header.specs.Name.{name_cmp}
use Rattle.agv_header.specs.declared.key.Thing.{Thing}
use Rattle.agv_header.specs.declared.key.Thing.TheVariants.{Node, Edge}
use Rattle.agv_header.specs.declared.key.VehicleKey.{VehicleKey}

-- vehicles are compared by manufacturer, and then by serial number
abbrev pub key_cmp : VehicleKey → VehicleKey → Ordering
key_cmp a b = ordering_then (name_cmp a.manufacturer b.manufacturer) (name_cmp a.serial b.serial)

-- the rank of the kind: nodes come before edges
abbrev pub kind_rank : Thing → ℕ
kind_rank (Node _) = 0
kind_rank (Edge _) = 1

-- the name of the node or edge
abbrev pub thing_name : Thing → List ℕ
thing_name (Node name) = name
thing_name (Edge name) = name

-- things are compared by kind, nodes before edges, and then by name
abbrev pub thing_cmp : Thing → Thing → Ordering
thing_cmp a b = ordering_then (nat_cmp (kind_rank a) (kind_rank b)) (name_cmp (thing_name a) (thing_name b))
