-- The release of more nodes and edges by an update (VDA 5050 2.0, order update).
use Rattle.std.specs.Prelude.{ℕ, ◌+◌, ◌<◌, ◌≤◌, length}
use Rattle.agv_order.specs.declared.trip.Trip.{Trip}

-- this many edges can be released: at least one, and not past the last node
abbrev pub CanRelease : Trip → ℕ → Type 0
CanRelease trip n = (0 < n) × (trip.base + n ≤ length trip.edges)

-- the trip after the update that releases this many more edges; its message begins at the last node of the old base
abbrev pub released : Trip → ℕ → Trip
released trip n = record trip { first = trip.base; base = trip.base + n; sent = trip.sent + 1 }
