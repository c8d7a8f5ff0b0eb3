use Rattle.json.specs.Print.{escape_byte}
use Rattle.agv_message_json.proofs.Appending.{same_text}
use Rattle.agv_message_json.proofs.Texts.{instant_text}
use Rattle.std.proofs.Common.{ℕ, subst}
use Rattle.agv_message_json.specs.Json.{whole}
use Rattle.agv_message_json.specs.Readable.{IsReadable}
use Rattle.agv_message_json.proofs.Readings.{instant-back, on_ok}
use Rattle.agv_message_json.proofs.instant_message.put_instant.Goals as goal

pub returns-clause-appended : goal.returns-clause-appended
unfolding escape_byte
returns-clause-appended c = same_text _ _ _ _ _ (instant_text c.args.header.now c.args.instant.now _ c.from.ensures) c.put_pieces.ensures.appended

pub returns-clause-reads_back : goal.returns-clause-reads_back
returns-clause-reads_back c =
    on_ok _ c.put_pieces.ensures.readable
    (λ each. instant-back c.args.header.now c.args.instant.now each.1.0 (subst (λ (n : ℕ). IsReadable (whole n)) c.from.ensures each.1.1.1.1.1.0) each.1.1.1.1.1.1.1.0 each.1.1.1.1.1.1.1.1.1.0 each.1.1.1.1.1.1.1.1.1.1.1.0)
