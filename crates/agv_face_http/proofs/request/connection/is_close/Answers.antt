use Rattle.std.proofs.Common.{ap, codes, ◌∙◌}
use Rattle.agv_face_http.specs.request.Lines.{same_word}
use Rattle.agv_face_http.proofs.request.connection.is_close.Goals as goal

pub returns : goal.returns
returns c = c.is_same_word.ensures ∙ ap (same_word (codes "close")) c.trimmed.ensures
