use Rattle.std.proofs.Common.{◌≡◌, map, drop}
use Rattle.serde_json.specs.View.{view}
use Rattle.agv_header.specs.Each.{each}
use Rattle.agv_message_json.proofs.Arrays.{after}
use Rattle.agv_face_http.specs.bodies.OrderBody.{stop_in}
use Rattle.agv_face_http.proofs.bodies.order_body.stops_in.Given as goal

abbrev pub invariant-loop-value : goal.invariant-loop-value
invariant-loop-value l =
    each stop_in (map view l.values) ≡ after l.stops.items (each stop_in (map view (drop l.value-index l.values)))
