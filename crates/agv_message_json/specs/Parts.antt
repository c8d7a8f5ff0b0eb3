-- The parts that a state is read into, and the message made of them. No public clause cites this.
use Rattle.std.specs.Prelude.{◌≡◌, ℕ, [], false, codes, unwrap_or}
use Rattle.serde_json.specs.Data.{Data}
use Rattle.agv_message_json.specs.Members.{truth_at}
use Rattle.agv_message_json.specs.State.{is_ready, levels_at, stop_at, text, whole}
use Rattle.agv_message_json.specs.declared.condition.Condition.{Condition}
use Rattle.agv_message_json.specs.declared.opening.Opening.{Opening}
use Rattle.agv_message_json.specs.declared.opening.Progress.{Progress}
use Rattle.agv_message_json.specs.declared.parts.Parts.{Parts}
use Rattle.agv_message_json.specs.declared.parts.Texts.{Texts}
use Rattle.agv_message_core.specs.declared.state.StateMessage.{StateMessage}

-- the opening has the state's header members
pub record IsOpening (d : Data) (o : Opening) : Type 0 where
  pub number : o.number ≡ whole (codes "headerId") d
  pub timestamp : o.timestamp.now ≡ text (codes "timestamp") d
  pub version : o.version.now ≡ text (codes "version") d
  pub manufacturer : o.manufacturer.now ≡ text (codes "manufacturer") d
  pub serial : o.serial.now ≡ text (codes "serialNumber") d

-- the progress has the state's members of the vehicle's progress in its order
pub record IsProgress (d : Data) (p : Progress) : Type 0 where
  pub order : p.order.now ≡ text (codes "orderId") d
  pub update : p.update ≡ whole (codes "orderUpdateId") d
  pub last_node : p.last_node.now ≡ text (codes "lastNodeId") d
  pub last_seq : p.last_seq ≡ whole (codes "lastNodeSequenceId") d

-- the condition is the one that the state reports
pub record IsCondition (d : Data) (c : Condition) : Type 0 where
  pub ready : c.ready ≡ is_ready (text (codes "operatingMode") d) (unwrap_or (stop_at d) []) (unwrap_or (levels_at d) [])
  pub paused : c.paused ≡ unwrap_or (truth_at (codes "paused") d) false

-- the texts of the parts
abbrev pub texts_of : Parts → Texts
texts_of parts = record {
  manufacturer = parts.opening.manufacturer.now;
  serial = parts.opening.serial.now;
  order_id = parts.progress.order.now;
  last_node = parts.progress.last_node.now;
}

-- the message made of the parts and these texts
abbrev pub message_with : ℕ → Parts → Texts → StateMessage
message_with at parts texts = record {
  header_id = parts.opening.number;
  at = at;
  manufacturer = texts.manufacturer;
  serial = texts.serial;
  order_id = texts.order_id;
  update = parts.progress.update;
  last_node = texts.last_node;
  last_seq = parts.progress.last_seq;
  node_seqs = parts.node_seqs;
  actions = parts.actions;
  ready = parts.condition.ready;
  paused = parts.condition.paused;
}

-- the message made of the parts
abbrev pub message_from : ℕ → Parts → StateMessage
message_from at parts = message_with at parts (texts_of parts)
