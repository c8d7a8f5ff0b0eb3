use Rattle.std.proofs.Common.{ap, sym}
use Rattle.json.specs.Print.{escape_byte}
use Rattle.serde_json.specs.Written.{compact_text}
use Rattle.agv_message_core.specs.Instant.{instant_name}
use Rattle.agv_message_json.specs.Json.{text}
use Rattle.agv_message_core.specs.declared.instant.InstantKind.{InstantKind}
use Rattle.agv_message_json.proofs.Appending.{same_text}
use Rattle.agv_message_json.proofs.words.put_instant_kind.Goals as goal

pub returns-in-StartPause : goal.returns-in-StartPause
unfolding escape_byte
returns-in-StartPause c =
    same_text _ _ _ _ _ (ap (λ (k : InstantKind). compact_text (text (instant_name k))) (sym c.in-StartPause.is)) c.put_bytes.ensures

pub returns-in-StopPause : goal.returns-in-StopPause
unfolding escape_byte
returns-in-StopPause c =
    same_text _ _ _ _ _ (ap (λ (k : InstantKind). compact_text (text (instant_name k))) (sym c.in-StopPause.is)) c.put_bytes-in-StopPause.ensures

pub returns-in-CancelOrder : goal.returns-in-CancelOrder
unfolding escape_byte
returns-in-CancelOrder c =
    same_text _ _ _ _ _ (ap (λ (k : InstantKind). compact_text (text (instant_name k))) (sym c.in-CancelOrder.is)) c.put_bytes-in-CancelOrder.ensures
