use Rattle.std.proofs.Common.{◌≡◌, ◌||◌, codes, map, drop, option_map}
use Rattle.std.specs.List.{list_any}
use Rattle.serde_json.specs.View.{view}
use Rattle.agv_header.specs.Each.{each}
use Rattle.agv_message_json.specs.Members.{text_at}
use Rattle.agv_message_json.specs.State.{is_fatal}
use Rattle.agv_message_json.proofs.condition.some_is_fatal.Given as goal

abbrev pub invariant-loop-error : goal.invariant-loop-error
invariant-loop-error l =
    option_map (list_any is_fatal) (each (text_at (codes "errorLevel")) (map view l.errors))
    ≡ option_map (λ levels. l.fatal || list_any is_fatal levels) (each (text_at (codes "errorLevel")) (map view (drop l.error-index l.errors)))
