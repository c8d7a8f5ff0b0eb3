use Rattle.std.proofs.Common.{sym, ap, ◌∙◌, Err}
use Rattle.std.specs.Option.{is_none}
use Rattle.agv_world_lawful.proofs.footprints.is_given.Goals as goal

pub returns-in-Err-Held-clause-free : goal.returns-in-Err-Held-clause-free
returns-in-Err-Held-clause-free c = ap is_none (sym ((c.claim.ensures.held c.in-Err-Held.field-0-0 c.in-Err-Held.field-0-1).0 (c.in-Err-Held.is ∙ ap Err c.in-Err-Held.field-0-is)))
