use Rattle.std.proofs.Common.{◌≡◌, ◌++◌, ◌∷◌, [], ℕ, List, true, false, map, take, get_or, sym, ap, ◌∙◌, subst, append-nil}
use Rattle.httparse.specs.Spans.{header_bytes}
use Rattle.httparse.specs.declared.spans.HeaderSpan.{HeaderSpan}
use Rattle.agv_face_http.specs.declared.request.lines.Values.{Values}
use Rattle.agv_face_http.specs.request.Lines.{Line, same_word, values_of}
use Rattle.agv_face_http.specs.request.Found.{AreFound}
use Rattle.agv_face_http.proofs.request.Values.{values_of-more}
use Rattle.agv_face_http.proofs.request.lines.values_named.Goals as goal
use Rattle.agv_face_http.proofs.request.lines.values_named.Goals.{then-is_same_word, else-is_same_word}

abbrev blank : HeaderSpan
blank = record { name = record { start = 0; end = 0 }; value = record { start = 0; end = 0 } }

pub loop-header-preserved : goal.loop-header-preserved
loop-header-preserved c =
    let line_of : HeaderSpan → Line = header_bytes c.args.buf.now in
    let i : ℕ = c.loop-header.header-index in
    let so_far : List (List ℕ) = values_of c.args.name.now (map line_of (take i c.args.headers.now)) in
    elim c.if-is_same_word.branch [
      | then-is_same_word w ↦
          let same : same_word (line_of (get_or c.args.headers.now i blank)).0 c.args.name.now ≡ true = cc in
          let more = values_of-more line_of c.args.name.now c.args.headers.now i blank c.loop-header-test.true true same in
          let value : w.of-then-is_same_word.result.now ≡ (line_of (get_or c.args.headers.now i blank)).1 = w.of-then-is_same_word.ensures in
          let P : List (List ℕ) → Type 0 = λ l. AreFound l c.if-is_same_word.values in
          let Q : Values → Type 0 = AreFound (so_far ++ w.of-then-is_same_word.result.now ∷ []) in
          subst P (ap (λ (v : List ℕ). so_far ++ v ∷ []) value ∙ sym more) (subst Q (sym w.values-is) (w.with_value-values.ensures so_far c.loop-header.invariant))
      | else-is_same_word w ↦
          let other : same_word (line_of (get_or c.args.headers.now i blank)).0 c.args.name.now ≡ false = cc in
          let more = values_of-more line_of c.args.name.now c.args.headers.now i blank c.loop-header-test.true false other in
          let P : List (List ℕ) → Type 0 = λ l. AreFound l c.if-is_same_word.values in
          subst P (sym (more ∙ append-nil so_far)) (subst (AreFound so_far) (sym w.values-is) c.loop-header.invariant)
    ]
