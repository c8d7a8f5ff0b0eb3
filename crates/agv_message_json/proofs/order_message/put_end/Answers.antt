use Rattle.std.proofs.Common.{ℕ, ◌++◌, codes, ap}
use Rattle.agv_header.specs.Stamp.{stamp_of}
use Rattle.serde_json.specs.Written.{compact_text}
use Rattle.agv_message_json.specs.Json.{text, whole}
use Rattle.agv_message_json.proofs.Appending.{same_text}
use Rattle.std.proofs.Common.{subst}
use Rattle.agv_message_json.specs.Readable.{IsReadable}
use Rattle.agv_message_json.proofs.Readings.{on_ok}
use Rattle.agv_message_json.proofs.order_message.put_end.Goals as goal

pub returns-clause-appended : goal.returns-clause-appended
returns-clause-appended c =
    let header = c.args.header.now in
    same_text _ _ _ _ _
    (ap (λ (n : ℕ). codes ",\"orderId\":" ++ (compact_text (text c.args.order.now.order) ++ (codes ",\"orderUpdateId\":" ++ (compact_text (whole n)
    ++ (codes ",\"serialNumber\":" ++ (compact_text (text header.key.serial)
    ++ (codes ",\"timestamp\":" ++ (compact_text (text (stamp_of header.at)) ++ codes ",\"version\":\"2.0.0\"}")))))))) c.from.ensures)
    c.put_pieces.ensures.appended

pub returns-clause-readable : goal.returns-clause-readable
returns-clause-readable c =
    on_ok {Q = IsReadable (text c.args.order.now.order) × IsReadable (whole c.args.order.now.update) × IsReadable (text c.args.header.now.key.serial) × IsReadable (text (stamp_of c.args.header.now.at))} _ c.put_pieces.ensures.readable
    (λ each. (each.1.0, subst (λ (n : ℕ). IsReadable (whole n)) c.from.ensures each.1.1.1.0, each.1.1.1.1.1.0, each.1.1.1.1.1.1.1.0))
