use Rattle.std.proofs.Common.{List, ℕ, ◌<◌, ◌^◌, ◌∷◌, [], ◌++◌, ◌∙◌, ap, sym, codes, arith}
use Rattle.json.specs.Print.{escape_byte}
use Rattle.agv_message_json.proofs.Appending.{same_text}
use Rattle.agv_message_json.proofs.Escapes.{escape-decimal}
use Rattle.agv_message_json.proofs.Readings.{instant_id-readable}
use Rattle.agv_message_json.proofs.words.put_action_id.Goals as goal

pub returns-clause-appended : goal.returns-clause-appended
unfolding escape_byte
returns-clause-appended c =
    let small : c.args.n < 2 ^ 64 = omega (arith, c.ranges.n.fits) in
    let plain = c.as_bytes.ensures.value ∙ c.format.ensures.text ∙ sym (escape-decimal c.args.n small) in
    same_text _ _ _ _ _ (ap (λ (s : List ℕ). codes "\"instant-" ++ (s ++ 34 ∷ [])) plain) c.put_words.ensures

pub returns-clause-readable : goal.returns-clause-readable
returns-clause-readable c = instant_id-readable c.args.n (omega (arith, c.ranges.n.fits))
