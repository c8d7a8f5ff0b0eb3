use Rattle.std.proofs.Common.{ℕ, List, reverse, ap, ◌∙◌}
use Rattle.httparse.specs.Grammar.{skip_ows, trim_ows}
use Rattle.agv_face_http.proofs.request.connection.trimmed.Goals as goal

pub returns : goal.returns
unfolding trim_ows
returns c = c.without_back.ensures ∙ ap (λ (l : List ℕ). reverse (skip_ows (reverse l))) c.without_front.ensures
