-- The list of what a vehicle holds has just what it holds, and nothing twice.
use Rattle.std.proofs.Common.{◌↔◌, Contains}
use Rattle.std.specs.List.{IsDistinct}
use Rattle.agv_header.specs.ThingOrder.{thing_eq}
use Rattle.agv_header.specs.declared.key.Thing.{Thing}
use Rattle.agv_track_holds.proofs.Firsts.{contains-once, distinct-once}
use Rattle.agv_track_holds.specs.Footprints.{Occupies, IsOnBase, things_by, footprint_of}
use Rattle.agv_track_holds.proofs.Occupied.{contains-in, in-contains, held-listed, listed-held}
use Rattle.agv_track_holds.specs.declared.standing.Standing.{Standing}

-- a node or edge is listed exactly where the vehicle holds it
pub footprint-held : (standing : Standing) → IsOnBase standing.trip → (held : Thing) → Contains (footprint_of standing) held ↔ Occupies standing held
unfolding footprint_of
footprint-held standing on held =
    let all = things_by standing.node standing.rest standing.trip in
    let same = contains-once held all in (
      λ there. held-listed standing.node standing.rest standing.trip held on (in-contains held all (same.0 there)),
      λ occupied. same.1 (contains-in held all (listed-held standing.node standing.rest standing.trip held occupied)),
    )

-- no node or edge is listed twice
pub footprint-distinct : (standing : Standing) → IsDistinct thing_eq (footprint_of standing)
unfolding footprint_of
footprint-distinct standing = distinct-once (things_by standing.node standing.rest standing.trip)
