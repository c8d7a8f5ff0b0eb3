use Rattle.std.proofs.Common.{◌≡◌, false, take, map, codes}
use Rattle.std.specs.List.{list_any}
use Rattle.httparse.specs.Spans.{header_bytes}
use Rattle.agv_face_http.specs.request.Lines.{values_of}
use Rattle.agv_face_http.specs.request.Requests.{says_close}
use Rattle.agv_face_http.proofs.request.connection.has_close.Given as goal

-- no line so far says `close`
abbrev pub invariant-loop-header : goal.invariant-loop-header
invariant-loop-header l = list_any says_close (values_of (codes "connection") (map (header_bytes l.buf) (take l.header-index l.headers))) ≡ false
