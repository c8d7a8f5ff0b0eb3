use Rattle.std.proofs.Common.{◌++◌, ap, sym, ◌∙◌}
use Rattle.agv_face_http.specs.Output.{answers_to, last_text, world_after}
use Rattle.agv_face_http.proofs.laws.output.writes_one_output.Goals as goal

-- src/output_laws.rt:9:1
pub returns : goal.returns
returns c = λ seats world at input out other left remains one two.
    let same = c.is_cut_one_way.ensures input one.requests two.requests one.ending two.ending one.cut two.cut in (
      one.written ∙ ap (λ requests. answers_to seats world at requests ++ last_text one.ending) same.0
          ∙ ap (λ ending. answers_to seats world at two.requests ++ last_text ending) same.1 ∙ sym two.written,
      one.world_is ∙ ap (world_after seats world at) same.0 ∙ sym two.world_is,
    )
