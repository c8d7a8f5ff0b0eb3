use Rattle.std.proofs.Common.{arith, take}
use Rattle.std.specs.List.{flat_map}
use Rattle.std.proofs.lemmas.List.Folds.{length-flat_map-take}
use Rattle.agv_message_json.specs.Appending.{word_text}
use Rattle.agv_message_json.proofs.Appending.{refused_then}
use Rattle.agv_message_json.proofs.words.put_words.Goals as goal

pub returns-in_err-put_bytes : goal.returns-in_err-put_bytes
returns-in_err-put_bytes c =
    refused_then _ _ _ _ _ (flat_map word_text (take c.loop-word.word-index c.args.words.now)) _ _ c.from_residual.ensures.0 c.loop-word.invariant c.in_err-put_bytes.ensures
    (length-flat_map-take word_text c.args.words.now c.loop-word.word-index _ (omega arith))
