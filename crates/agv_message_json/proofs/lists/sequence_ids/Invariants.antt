use Rattle.std.proofs.Common.{◌≡◌, codes, map, drop}
use Rattle.serde_json.specs.View.{view}
use Rattle.agv_header.specs.Each.{each}
use Rattle.agv_message_json.specs.Members.{whole_at}
use Rattle.agv_message_json.proofs.Arrays.{after}
use Rattle.agv_message_json.proofs.lists.sequence_ids.Given as goal

abbrev pub invariant-loop-node : goal.invariant-loop-node
invariant-loop-node l =
    each (whole_at (codes "sequenceId")) (map view l.nodes) ≡ after l.ids.items (each (whole_at (codes "sequenceId")) (map view (drop l.node-index l.nodes)))
