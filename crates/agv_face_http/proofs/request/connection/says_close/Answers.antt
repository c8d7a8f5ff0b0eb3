use Rattle.std.proofs.Common.{codes, rules, tests, sym, ◌∙◌}
use Rattle.std.proofs.lemmas.Iterator.Search.{any_from_yields_List}
use Rattle.std.proofs.lemmas.Iterator.Splits.{YieldsList-from_slice_split}
use Rattle.httparse.specs.Grammar.{trim_ows}
use Rattle.agv_face_http.specs.request.Lines.{same_word}
use Rattle.agv_face_http.proofs.request.Connections.{list_any-map}
use Rattle.agv_face_http.proofs.request.connection.says_close.Goals as goal

-- whether an element is `close`, over the pieces between the commas
pub returns : goal.returns
returns c =
    any_from_yields_List (λ e. same_word (codes "close") (trim_ows e)) _ _ _ c.any.ensures.ran
    (YieldsList-from_slice_split _ _ c.args.value.now c.split.ensures.rest c.split.ensures.done c.split.ensures.closure (λ x r q k. search (rules, tests)))
    (λ x b q k. search rules)
    ∙ sym (list_any-map (same_word (codes "close")) trim_ows _)
