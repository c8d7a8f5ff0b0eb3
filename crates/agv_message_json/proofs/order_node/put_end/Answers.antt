use Rattle.std.proofs.Common.{ℕ, ◌++◌, codes, ap}
use Rattle.serde_json.specs.Written.{compact_text}
use Rattle.agv_message_json.specs.Json.{text, truth, whole}
use Rattle.agv_message_json.proofs.Appending.{same_text}
use Rattle.std.proofs.Common.{subst}
use Rattle.agv_message_json.specs.Readable.{IsReadable}
use Rattle.agv_message_json.proofs.Readings.{on_ok}
use Rattle.agv_message_json.proofs.order_node.put_end.Goals as goal

pub returns-clause-appended : goal.returns-clause-appended
returns-clause-appended c =
    same_text _ _ _ _ _
    (ap (λ (n : ℕ). codes ",\"nodeId\":" ++ (compact_text (text c.args.node.now.id) ++ (codes ",\"released\":" ++ (compact_text (truth c.args.node.now.released)
    ++ (codes ",\"sequenceId\":" ++ (compact_text (whole n) ++ codes "}")))))) c.from.ensures)
    c.put_pieces.ensures.appended

pub returns-clause-readable : goal.returns-clause-readable
returns-clause-readable c =
    on_ok {Q = IsReadable (text c.args.node.now.id) × IsReadable (whole c.args.node.now.seq)} _ c.put_pieces.ensures.readable
    (λ each. (each.1.0, subst (λ (n : ℕ). IsReadable (whole n)) c.from.ensures each.1.1.1.1.1.0))
