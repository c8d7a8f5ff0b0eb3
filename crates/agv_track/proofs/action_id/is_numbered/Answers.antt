use Rattle.std.proofs.Common.{Some, None, decimal, sym, ◌∙◌}
use Rattle.std.proofs.lemmas.Bool.Decides.{Decides-eqb}
use Rattle.std.proofs.lemmas.Slice.Eq.{strip_prefix_is}
use Rattle.agv_track.proofs.Ids.{past_prefix, no_prefix}
use Rattle.agv_track.proofs.action_id.is_numbered.Goals as goal

pub returns-in-Some : goal.returns-in-Some
returns-in-Some c =
    let is = strip_prefix_is Decides-eqb c.args.text.now c.args.prefix.now (Some c.in-Some.digits) c.in-Some.ensures.cases in
    c.is_decimal.ensures ∙ sym (past_prefix c.args.text.now c.args.prefix.now c.in-Some.digits.now (decimal c.args.number) is)

pub returns-in-None : goal.returns-in-None
returns-in-None c =
    no_prefix c.args.text.now c.args.prefix.now (decimal c.args.number) (strip_prefix_is Decides-eqb c.args.text.now c.args.prefix.now None c.in-None.ensures.cases)
