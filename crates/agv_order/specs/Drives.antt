-- The plan of a drive: an order without actions, from the vehicle's node to another one by the layout's route (this project's profile).
use Rattle.std.specs.Prelude.{◌≡◌, ℕ, ◌≤◌, nat_lt, if◌then◌else◌, List, [], ◌∷◌, length, All, Option, None, Some, Result, Ok, Err}
use Rattle.std.specs.Option.{option_map}
use Rattle.agv_header.specs.declared.key.VehicleKey.{VehicleKey}
use Rattle.agv_layout.specs.Layout.{Layout}
use Rattle.agv_layout.specs.RouteOf.{route_of}
use Rattle.agv_layout.specs.Walk.{IsRoute}
use Rattle.agv_layout.specs.declared.edge.Edge.{Edge}
use Rattle.agv_order.specs.Plans.{edges_named}
use Rattle.agv_order.specs.WellFormed.{IsEdgeOf, ids_of}
use Rattle.agv_order.specs.declared.fault.PlanFault.{PlanFault}
use Rattle.agv_order.specs.declared.fault.PlanFault.TheVariants as fault
use Rattle.agv_order.specs.declared.trip.Trip.{Trip}

-- the edges of the route from a node to another one, if there is one
abbrev pub drive_edges : Layout → List ℕ → List ℕ → Option (List Edge)
drive_edges layout at to = option_map (edges_named layout) (route_of layout at to)

module _ (vehicle : VehicleKey) (order : List ℕ) (at : List ℕ) (base : ℕ) where
  -- the trip over these edges, as it begins: without acts, and nothing is confirmed
  abbrev pub drive_over : List Edge → Trip
  drive_over edges = record {
    order = order;
    vehicle = vehicle;
    start = at;
    edges = edges;
    first = 0;
    base = base;
    sent = 0;
    confirmed = None;
    seen = 0;
    acts = [];
  }

  -- the trip over these edges, or why there is none: no way, or one without an edge, as the vehicle is there; more than 200 edges; or a base past the end
  abbrev pub drive_along : Option (List Edge) → Result Trip PlanFault
  drive_along None = Err fault.NoWalk
  drive_along (Some []) = Err fault.NoWalk
  drive_along (Some (edge ∷ edges)) =
      if nat_lt 200 (length (edge ∷ edges)) then Err fault.TooLong
      else (if nat_lt (length (edge ∷ edges)) base then Err fault.Beyond
      else Ok (drive_over (edge ∷ edges)))

-- the trip of a vehicle at a node that drives to another one, with the first `base` edges released, or why there is none
abbrev pub drive_planned : Layout → VehicleKey → List ℕ → List ℕ → List ℕ → ℕ → Result Trip PlanFault
drive_planned layout vehicle order at to base = drive_along vehicle order at base (drive_edges layout at to)

-- the trip is a new one of the vehicle and the order: it drives from a node to another one by the layout's route, over at most 200 edges, of which the first `base` are released, and does nothing else; nothing of it is confirmed or driven
pub record IsDriveTo (layout : Layout) (vehicle : VehicleKey) (order at to : List ℕ) (base : ℕ) (trip : Trip) : Type 0 where
  pub named : trip.order ≡ order
  pub driver : trip.vehicle ≡ vehicle
  pub start : trip.start ≡ at
  pub route : IsRoute layout at to (ids_of trip.edges)
  pub known : All (IsEdgeOf layout) trip.edges
  pub does : trip.acts ≡ []
  pub short : length trip.edges ≤ 200
  pub released : trip.base ≡ base
  pub within : base ≤ length trip.edges
  pub first : trip.first ≡ 0
  pub sent : trip.sent ≡ 0
  pub confirmed : trip.confirmed ≡ None
  pub seen : trip.seen ≡ 0
