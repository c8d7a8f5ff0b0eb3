use Rattle.std.proofs.Common.{List, Option, codes, option_map, option_and_then, ap}
use Rattle.std.specs.List.{list_any}
use Rattle.serde_json.specs.Data.{Data}
use Rattle.agv_header.specs.Each.{each}
use Rattle.agv_message_json.specs.Members.{text_at}
use Rattle.agv_message_json.specs.State.{is_fatal, levels_at}
use Rattle.agv_message_json.proofs.condition.has_fatal.Goals as goal

pub returns-in-None : goal.returns-in-None
unfolding levels_at
returns-in-None c =
    ap (λ (o : Option (List Data)). option_map (list_any is_fatal) (option_and_then (each (text_at (codes "errorLevel"))) o)) c.in-None.ensures
