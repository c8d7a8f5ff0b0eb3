use Rattle.std.proofs.Common.{◌≡◌, ℕ, true, false, codes, get_or, sym}
use Rattle.httparse.specs.Spans.{header_bytes}
use Rattle.httparse.specs.declared.spans.HeaderSpan.{HeaderSpan}
use Rattle.agv_face_http.specs.request.Lines.{Line, same_word}
use Rattle.agv_face_http.specs.request.Requests.{says_close}
use Rattle.agv_face_http.proofs.request.Connections.{other_line, idle_line, passing_line}
use Rattle.agv_face_http.proofs.request.connection.has_close.Goals as goal
use Rattle.agv_face_http.proofs.request.connection.has_close.Goals.{else-is_same_word-via-then-is_same_word+else-says_close, else-is_same_word-via-else-is_same_word}

abbrev blank : HeaderSpan
blank = record { name = record { start = 0; end = 0 }; value = record { start = 0; end = 0 } }

pub loop-header-preserved : goal.loop-header-preserved
loop-header-preserved c =
    let line_of : HeaderSpan → Line = header_bytes c.args.buf.now in
    let i : ℕ = c.loop-header.header-index in
    elim c.else-is_same_word.branch [
      | else-is_same_word-via-then-is_same_word+else-says_close w ↦
          let same : same_word (line_of (get_or c.args.headers.now i blank)).0 (codes "connection") ≡ true = cc in
          let idle : says_close (line_of (get_or c.args.headers.now i blank)).1 ≡ false = cc in
          idle_line line_of says_close (codes "connection") c.args.headers.now i blank c.loop-header-test.true true same idle c.loop-header.invariant
      | else-is_same_word-via-else-is_same_word w ↦
          let other : same_word (line_of (get_or c.args.headers.now i blank)).0 (codes "connection") ≡ false = cc in
          other_line line_of says_close (codes "connection") c.args.headers.now i blank c.loop-header-test.true other c.loop-header.invariant
    ]

pub returns-then-says_close : goal.returns-then-says_close
returns-then-says_close c =
    let line_of : HeaderSpan → Line = header_bytes c.args.buf.now in
    let i : ℕ = c.loop-header.header-index in
    let same : same_word (line_of (get_or c.args.headers.now i blank)).0 (codes "connection") ≡ true = cc in
    let passes : says_close (line_of (get_or c.args.headers.now i blank)).1 ≡ true = cc in
    sym (passing_line line_of says_close (codes "connection") c.args.headers.now i blank c.loop-header-test.true same passes)
