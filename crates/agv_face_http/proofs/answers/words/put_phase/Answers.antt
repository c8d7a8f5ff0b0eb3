use Rattle.std.proofs.Common.{ap, sym}
use Rattle.json.specs.Print.{escape_byte}
use Rattle.serde_json.specs.Written.{compact_text}
use Rattle.agv_message_json.specs.Json.{text}
use Rattle.agv_stock.specs.Phase.{phase_name}
use Rattle.agv_stock.specs.declared.job.Phase.{Phase}
use Rattle.agv_message_json.proofs.Appending.{same_text}
use Rattle.agv_face_http.proofs.answers.words.put_phase.Goals as goal

pub returns-in-Waiting : goal.returns-in-Waiting
unfolding escape_byte
returns-in-Waiting c =
    same_text _ _ _ _ _ (ap (λ (p : Phase). compact_text (text (phase_name p))) (sym c.in-Waiting.is)) c.put_bytes.ensures

pub returns-in-Riding : goal.returns-in-Riding
unfolding escape_byte
returns-in-Riding c =
    same_text _ _ _ _ _ (ap (λ (p : Phase). compact_text (text (phase_name p))) (sym c.in-Riding.is)) c.put_bytes-in-Riding.ensures

pub returns-in-Done : goal.returns-in-Done
unfolding escape_byte
returns-in-Done c =
    same_text _ _ _ _ _ (ap (λ (p : Phase). compact_text (text (phase_name p))) (sym c.in-Done.is)) c.put_bytes-in-Done.ensures

pub returns-in-Stopped : goal.returns-in-Stopped
unfolding escape_byte
returns-in-Stopped c =
    same_text _ _ _ _ _ (ap (λ (p : Phase). compact_text (text (phase_name p))) (sym c.in-Stopped.is)) c.put_bytes-in-Stopped.ensures
