-- The nodes and edges that a vehicle holds, as a set and in the order of its way (this project's profile).
use Rattle.std.specs.Prelude.{◌≡◌, ℕ, ◌-◌, ◌<◌, ◌≤◌, ◌⊎◌, not, List, [], ◌∷◌, take, drop, filter, Option, None, Some}
use Rattle.std.specs.List.{slice_get}
use Rattle.agv_header.specs.ThingOrder.{thing_eq}
use Rattle.agv_header.specs.declared.key.Thing.{Thing}
use Rattle.agv_header.specs.declared.key.Thing.TheVariants as thing
use Rattle.agv_layout.specs.declared.edge.Edge.{Edge}
use Rattle.agv_order.specs.Trips.{node_at}
use Rattle.agv_order.specs.declared.trip.Trip.{Trip}
use Rattle.agv_track_holds.specs.declared.standing.Standing.{Standing}

-- ---- the set

-- the thing is node `seen` of the trip, or a node or an edge after it up to node `base`
abbrev pub IsOnTrip : Trip → Thing → Type 0
IsOnTrip trip (thing.Node name) = (k : ℕ) × (trip.seen ≤ k) × (k ≤ trip.base) × (node_at trip k ≡ Some name)
IsOnTrip trip (thing.Edge name) = (k : ℕ) × (edge : Edge) × (trip.seen ≤ k) × (k < trip.base) × (slice_get trip.edges k ≡ Some edge) × (edge.id ≡ name)

-- the thing is the edge or the node of a rest
abbrev pub IsOnRest : Option (List ℕ × List ℕ) → Thing → Type 0
IsOnRest None thing = ⊥
IsOnRest (Some rest) (thing.Node name) = rest.1 ≡ name
IsOnRest (Some rest) (thing.Edge name) = rest.0 ≡ name

-- the vehicle holds the thing: without a trip its node and its rest, otherwise what is on its trip
abbrev pub IsHeldBy : List ℕ → Option (List ℕ × List ℕ) → Option Trip → Thing → Type 0
IsHeldBy node rest None held = (thing.Node node ≡ held) ⊎ IsOnRest rest held
IsHeldBy node rest (Some trip) held = IsOnTrip trip held

-- the vehicle with this standing holds the thing
abbrev pub Occupies : Standing → Thing → Type 0
Occupies standing held = IsHeldBy standing.node standing.rest standing.trip held

-- ---- the order of the way

-- the edges, each followed by the node where it finishes
abbrev pub along : List Edge → List Thing
along [] = []
along (edge ∷ edges) = thing.Edge edge.id ∷ thing.Node edge.finish ∷ along edges

-- the edges after node `seen` up to node `base`
abbrev pub released_edges : Trip → List Edge
released_edges trip = take (trip.base - trip.seen) (drop trip.seen trip.edges)

-- a node, and then the edges with their nodes; empty if there is no node
abbrev pub from_node : Option (List ℕ) → List Edge → List Thing
from_node None edges = []
from_node (Some node) edges = thing.Node node ∷ along edges

-- the edge and the node of a rest
abbrev pub rest_things : Option (List ℕ × List ℕ) → List Thing
rest_things None = []
rest_things (Some rest) = thing.Edge rest.0 ∷ thing.Node rest.1 ∷ []

-- all that the vehicle holds; a thing that it passes twice is listed twice
abbrev pub things_by : List ℕ → Option (List ℕ × List ℕ) → Option Trip → List Thing
things_by node rest None = thing.Node node ∷ rest_things rest
things_by node rest (Some trip) = from_node (node_at trip trip.seen) (released_edges trip)

-- each thing once, where it comes first
abbrev pub once : List Thing → List Thing
once [] = []
once (first ∷ things) = first ∷ filter (λ (other : Thing). not (thing_eq first other)) (once things)

-- what the vehicle with this standing holds, each thing once, in the order of its way
unfoldable pub footprint_of : Standing → List Thing
footprint_of standing = once (things_by standing.node standing.rest standing.trip)

-- the trip, if there is one, has not passed the last released node
abbrev pub IsOnBase : Option Trip → Type 0
IsOnBase None = Unit {0}
IsOnBase (Some trip) = trip.seen ≤ trip.base
