use Rattle.std.proofs.Common.{true, false, sym, ap, ◌∙◌}
use Rattle.agv_message_json.specs.Body.{whole_only}
use Rattle.agv_message_json.proofs.Bodies.{text-read}
use Rattle.agv_message_json.proofs.body.read_text.Goals as goal

pub returns-in-Ok-clause-err : goal.returns-in-Ok-clause-err
returns-in-Ok-clause-err c = text-read _ _ true c.in-Ok.ensures.ok (sym c.has_fraction.ensures ∙ c.if-has_fraction.true)

pub returns-in-Ok-2-clause-ok : goal.returns-in-Ok-2-clause-ok
returns-in-Ok-2-clause-ok c = text-read _ _ false c.in-Ok.ensures.ok (sym c.has_fraction.ensures ∙ c.if-has_fraction.false)

pub returns-in-Err-2-clause-err : goal.returns-in-Err-2-clause-err
returns-in-Err-2-clause-err c =
    ap whole_only (c.in-Err.ensures.err (λ m. let is_memory = c.is_memory.ensures.1 m in cc))
