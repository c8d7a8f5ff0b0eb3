use Rattle.std.proofs.Common.{take}
use Rattle.std.specs.List.{flat_map}
use Rattle.agv_message_json.specs.Appending.{word_text, SoFar}
use Rattle.agv_message_json.proofs.words.put_words.Given as goal

abbrev pub invariant-loop-word : goal.invariant-loop-word
invariant-loop-word l = SoFar l.initial.out l.out (flat_map word_text (take l.word-index l.words))
