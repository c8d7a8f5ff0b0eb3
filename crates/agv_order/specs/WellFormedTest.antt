-- A computable test of well-formed trips. A law proves that it is equivalent to the definition (`tests_well_formed`).
use Rattle.std.specs.Prelude.{ℕ, ◌+◌, ◌==◌, ◌&&◌, ◌||◌, not, if◌then◌else◌, nat_eq, nat_le, nat_lt, Bool, true, false, List, [], ◌∷◌, length, map, Option, None, Some}
use Rattle.std.specs.List.{list_all}
use Rattle.std.specs.FinMap as finite
use Rattle.std.specs.FinSet as set
use Rattle.std.specs.Cmp.Lexicographic.{pointwise}
use Rattle.agv_layout.specs.Layout.{Layout}
use Rattle.agv_layout.specs.declared.edge.Edge.{Edge}
use Rattle.agv_layout.specs.declared.edge.EdgeEnds.{EdgeEnds}
use Rattle.agv_layout.specs.declared.station.StationSite.{StationSite}
use Rattle.agv_order.specs.Stops.{are_paired}
use Rattle.agv_order.specs.Trips.{task_of, stop_of, node_at}
use Rattle.agv_order.specs.WellFormed.{is_reached, is_in_turn, has_not_begun, is_over}
use Rattle.agv_order.specs.declared.act.Act.{Act}
use Rattle.agv_order.specs.declared.stop.Stop.{Stop}
use Rattle.agv_order.specs.declared.trip.Trip.{Trip}

-- ---- the plan

-- the edge has these ends
abbrev pub has_ends : Edge → Option EdgeEnds → Bool
has_ends edge None = false
has_ends edge (Some ends) = pointwise nat_eq ends.start edge.start && pointwise nat_eq ends.finish edge.finish

-- the layout has the edge, with these ends
abbrev pub is_edge_of : Layout → Edge → Bool
is_edge_of layout edge = has_ends edge (finite.get layout.edges edge.id)

-- the first edge starts at this node, and each other where the one before it finishes; the layout has each of them, and the way ends at a node of the layout
abbrev pub is_way_of : Layout → List ℕ → List Edge → Bool
is_way_of layout at [] = set.contains layout.nodes at
is_way_of layout at (edge ∷ edges) = pointwise nat_eq edge.start at && is_edge_of layout edge && is_way_of layout edge.finish edges

-- the stops of the acts
abbrev pub stops_of : List Act → List Stop
stops_of acts = map stop_of (map task_of acts)

-- the acts' places do not decrease, starting from this place, and the last of them is the given one
abbrev pub is_rising : ℕ → List Act → ℕ → Bool
is_rising from [] to = from == to
is_rising from (act ∷ acts) to = nat_le from act.place_at && is_rising act.place_at acts to

-- the acts are in the order of the way, and the last is at its end; without acts any way will do
abbrev pub are_in_order : List Act → ℕ → Bool
are_in_order [] end = true
are_in_order (act ∷ acts) end = is_rising 0 (act ∷ acts) end

-- both are there, and the site is at the node
abbrev pub is_site_at : Option (List ℕ) → Option StationSite → Bool
is_site_at None site = false
is_site_at (Some node) None = false
is_site_at (Some node) (Some site) = pointwise nat_eq site.node node

-- the station of the act is at the node of the act's place
abbrev pub is_at_station : Layout → Trip → Act → Bool
is_at_station layout trip act = is_site_at (node_at trip act.place_at) (finite.get layout.stations act.station)

-- the trip is a way of at most 200 edges, with at most eight acts, a pick and later a drop for each job; each act is at its station, the acts are in the order of the way, and the last is at its end
abbrev pub is_planned : Layout → Trip → Bool
is_planned layout trip =
    nat_le (length trip.edges) 200
    && nat_le (length trip.acts) 8
    && is_way_of layout trip.start trip.edges
    && are_paired (stops_of trip.acts)
    && are_in_order trip.acts (length trip.edges)
    && list_all (is_at_station layout trip) trip.acts

-- ---- the progress

-- the last message begins within the base, and the base ends within the way; the vehicle has seen no node past the base, and the base has at least as many edges as updates were sent
abbrev pub is_in_base : Trip → Bool
is_in_base trip =
    nat_le trip.first trip.base
    && nat_le trip.base (length trip.edges)
    && nat_le trip.seen trip.base
    && nat_le trip.sent trip.base

-- the order itself begins at the start, and the last update releases more
abbrev pub is_growing : Trip → Bool
is_growing trip = if trip.sent == 0 then trip.first == 0 else nat_lt trip.first trip.base

-- what the vehicle has confirmed: nothing, and then nothing has happened; or the update sent last; or the one before it, and then the vehicle has seen no node past the last message's first
abbrev pub is_confirmed : Trip → Option ℕ → Bool
is_confirmed trip None = trip.sent == 0 && trip.first == 0 && trip.seen == 0 && list_all has_not_begun trip.acts
is_confirmed trip (Some update) = update == trip.sent || (update + 1 == trip.sent && nat_le trip.seen trip.first)

-- the vehicle has seen the end of the way, and each act is over
abbrev pub has_ended : Trip → Bool
has_ended trip = trip.seen == length trip.edges && list_all is_over trip.acts

-- the trip is under way: no act is finished before its turn, and the trip has not ended
abbrev pub is_under_way : Trip → Bool
is_under_way trip =
    is_in_base trip
    && is_growing trip
    && is_confirmed trip trip.confirmed
    && list_all (is_reached trip.seen) trip.acts
    && list_all (is_in_turn trip.acts) trip.acts
    && not (has_ended trip)

-- the trip is planned on the layout, and under way
abbrev pub is_well_formed : Layout → Trip → Bool
is_well_formed layout trip = is_planned layout trip && is_under_way trip
