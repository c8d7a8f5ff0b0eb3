use Rattle.std.proofs.Common.{ℕ, ◌++◌, codes, ap}
use Rattle.serde_json.specs.Written.{compact_text}
use Rattle.agv_message_json.specs.Json.{text, whole}
use Rattle.agv_message_json.proofs.Appending.{same_text}
use Rattle.std.proofs.Common.{subst}
use Rattle.agv_message_json.specs.Readable.{IsReadable}
use Rattle.agv_message_json.proofs.Readings.{on_ok}
use Rattle.agv_message_json.proofs.order_message.put_middle.Goals as goal

pub returns-clause-appended : goal.returns-clause-appended
returns-clause-appended c =
    same_text _ _ _ _ _
    (ap (λ (n : ℕ). codes ",\"headerId\":" ++ (compact_text (whole n)
    ++ (codes ",\"manufacturer\":" ++ (compact_text (text c.args.header.now.key.manufacturer) ++ codes ",\"nodes\":")))) c.from.ensures)
    c.put_pieces.ensures.appended

pub returns-clause-readable : goal.returns-clause-readable
returns-clause-readable c =
    on_ok {Q = IsReadable (whole c.args.header.now.number) × IsReadable (text c.args.header.now.key.manufacturer)} _ c.put_pieces.ensures.readable
    (λ each. (subst (λ (n : ℕ). IsReadable (whole n)) c.from.ensures each.1.0, each.1.1.1.0))
