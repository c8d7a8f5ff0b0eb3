use Rattle.json.specs.Print.{escape_byte}
use Rattle.agv_message_json.proofs.Appending.{same_text}
use Rattle.agv_message_json.proofs.Texts.{edge_text}
use Rattle.std.proofs.Common.{ℕ, subst}
use Rattle.agv_message_json.specs.Json.{whole}
use Rattle.agv_message_json.specs.Readable.{IsReadable}
use Rattle.agv_message_json.proofs.Readings.{edge-readable, on_ok}
use Rattle.agv_message_json.proofs.order_edge.put_edge.Goals as goal

pub returns-clause-appended : goal.returns-clause-appended
unfolding escape_byte
returns-clause-appended c = same_text _ _ _ _ _ (edge_text c.args.before.now c.args.edge.now _ c.from.ensures) c.put_pieces.ensures.appended

pub returns-clause-readable : goal.returns-clause-readable
returns-clause-readable c =
    on_ok _ c.put_pieces.ensures.readable
    (λ each. edge-readable c.args.edge.now each.1.1.0 each.1.1.1.1.0 (subst (λ (n : ℕ). IsReadable (whole n)) c.from.ensures each.1.1.1.1.1.1.1.1.0) each.1.1.1.1.1.1.1.1.1.1.0)
