use Rattle.std.proofs.Common.{List, ℕ, ◌<◌, ◌^◌, ◌∷◌, [], ◌++◌, ◌∙◌, ap₂, arith}
use Rattle.agv_message_json.proofs.Appending.{same_text}
use Rattle.agv_message_json.proofs.Escapes.{act_id_text}
use Rattle.agv_message_json.proofs.Readings.{act_id-readable}
use Rattle.agv_message_json.proofs.words.put_act_id.Goals as goal

pub returns-clause-appended : goal.returns-clause-appended
returns-clause-appended c =
    let small : c.args.n < 2 ^ 64 = omega (arith, c.ranges.n.fits) in
    let bytes = ap₂ (λ (o d : List ℕ). 34 ∷ (o ++ (46 ∷ (d ++ 34 ∷ [])))) c.as_bytes.ensures.bytes (c.as_bytes-2.ensures.value ∙ c.format.ensures.text) in
    same_text _ _ _ _ _ (bytes ∙ act_id_text c.args.order.now c.args.n c.as_bytes.ensures.name small) c.put_words.ensures

pub returns-clause-readable : goal.returns-clause-readable
returns-clause-readable c = act_id-readable c.args.order.now c.args.n c.as_bytes.ensures.name (omega (arith, c.ranges.n.fits))
