use Rattle.std.proofs.Common.{List, map, not, sym, ap, ◌∙◌}
use Rattle.httparse.specs.Spans.{header_bytes}
use Rattle.agv_face_http.specs.request.Lines.{Line}
use Rattle.agv_face_http.proofs.request.Values.{has_line-absent, has_line-found}
use Rattle.agv_face_http.proofs.request.lines.is_there.Goals as goal
use Rattle.agv_face_http.proofs.request.lines.is_there.Goals.{in-Absent, in_default}

pub returns : goal.returns
returns c =
    let lines : List Line = map (header_bytes c.args.buf.now) c.args.headers.now in
    elim c.match-matches.branch [
      | in-Absent w ↦ ap not w.matches-is ∙ sym (has_line-absent c.args.name.now lines c.values_named.result c.values_named.ensures w.in-Absent.is)
      | in_default w ↦ ap not w.matches-is ∙ sym (has_line-found c.args.name.now lines c.values_named.result c.values_named.ensures w.in_default.not-Absent)
    ]
