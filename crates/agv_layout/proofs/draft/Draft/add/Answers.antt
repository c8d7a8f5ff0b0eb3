use Rattle.std.proofs.Common.{sym, ◌∙◌}
use Rattle.std.proofs.lemmas.Bool.{not-true}
use Rattle.agv_layout.proofs.draft.Draft.add.Goals as goal

pub returns-clause-new : goal.returns-clause-new
returns-clause-new c = not-true _ (sym c.in_ok-is_new.ensures.new ∙ c.if-not-is_new.false)

pub returns-clause-added : goal.returns-clause-added
returns-clause-added c = c.in_ok-is_new.ensures.added c.if-not-is_new.false
