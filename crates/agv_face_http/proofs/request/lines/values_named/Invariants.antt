use Rattle.std.proofs.Common.{take, map}
use Rattle.httparse.specs.Spans.{header_bytes}
use Rattle.agv_face_http.specs.request.Lines.{values_of}
use Rattle.agv_face_http.specs.request.Found.{AreFound}
use Rattle.agv_face_http.proofs.request.lines.values_named.Given as goal

abbrev pub invariant-loop-header : goal.invariant-loop-header
invariant-loop-header l = AreFound (values_of l.name (map (header_bytes l.buf) (take l.header-index l.headers))) l.values
