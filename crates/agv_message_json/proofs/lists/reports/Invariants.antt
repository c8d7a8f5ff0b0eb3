use Rattle.std.proofs.Common.{◌≡◌, map, drop}
use Rattle.serde_json.specs.View.{view}
use Rattle.agv_header.specs.Each.{each}
use Rattle.agv_message_json.specs.State.{action_at}
use Rattle.agv_message_json.proofs.Arrays.{after}
use Rattle.agv_message_json.proofs.lists.reports.Given as goal

abbrev pub invariant-loop-entry : goal.invariant-loop-entry
invariant-loop-entry l =
    each action_at (map view l.actions) ≡ after l.reports.items (each action_at (map view (drop l.entry-index l.actions)))
