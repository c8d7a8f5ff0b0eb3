-- The ids of actions in messages, as the code represents them. No public clause cites this.
use Rattle.std.specs.Prelude.{ℕ, List}
use Rattle.agv_message_core.specs.Instant.{instant_id}
use Rattle.agv_message_core.specs.Order.{act_id}
use Rattle.agv_track.specs.declared.action_id.ActionId.{ActionId}
use Rattle.agv_track.specs.declared.action_id.ActionId.TheVariants.{Act, Instant}

-- the id's text in a message
abbrev pub id_text : ActionId → List ℕ
id_text (Act order n) = act_id order n
id_text (Instant number) = instant_id number
