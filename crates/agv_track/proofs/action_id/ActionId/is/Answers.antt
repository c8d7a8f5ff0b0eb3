use Rattle.std.proofs.Common.{◌++◌, Some, None, nat_eq, decimal, sym, ap, ◌∙◌}
use Rattle.std.specs.Cmp.Lexicographic.{pointwise}
use Rattle.std.proofs.lemmas.Bool.Decides.{Decides-eqb}
use Rattle.std.proofs.lemmas.Slice.Eq.{strip_prefix_is}
use Rattle.agv_track.specs.ActionId.{id_text}
use Rattle.agv_track.proofs.Ids.{past_order, no_order}
use Rattle.agv_track.proofs.action_id.ActionId.is.Goals as goal

pub returns-in-Some : goal.returns-in-Some
returns-in-Some c =
    let text = c.args.text.now in
    let rest = c.in-Some.rest.now in
    let is = strip_prefix_is Decides-eqb c.as_bytes-text.result.now c.as_bytes.result.now (Some c.in-Some.rest) c.in-Some.ensures.cases in
    c.is_numbered.ensures
    ∙ sym (past_order text c.in-Act.order rest (decimal c.in-Act.n) (sym c.as_bytes-text.ensures.value ∙ is ∙ ap (λ o. o ++ rest) c.as_bytes.ensures.bytes))
    ∙ ap (λ id. pointwise nat_eq text (id_text id)) (sym c.in-Act.is)

pub returns-in-None : goal.returns-in-None
returns-in-None c =
    let text = c.args.text.now in
    let no = strip_prefix_is Decides-eqb c.as_bytes-text.result.now c.as_bytes.result.now None c.in-None.ensures.cases in
    no_order text c.in-Act.order (decimal c.in-Act.n) (λ rest e. no rest (c.as_bytes-text.ensures.value ∙ e ∙ ap (λ o. o ++ rest) (sym c.as_bytes.ensures.bytes)))
    ∙ ap (λ id. pointwise nat_eq text (id_text id)) (sym c.in-Act.is)
