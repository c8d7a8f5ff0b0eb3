use Rattle.std.proofs.Common.{ap, sym, ◌∙◌}
use Rattle.agv_store_floor.specs.Floors.{Keyed}
use Rattle.agv_store_floor.proofs.Asked.{asked_done, asked_fault, asked_consistent, asked_knows, asked_settled, err_of, not_asked}
use Rattle.agv_store_floor.proofs.keyed_floor.KeyedFloor.settle.Goals as goal

pub returns-then-self-clause-asks : goal.returns-then-self-clause-asks
returns-then-self-clause-asks g c = not_asked g.S.Store c.args.self.now (sym (ap (λ (desk : Keyed g.row.S.Denot). desk.failed) c.self.view_is) ∙ c.if-self.true)

pub returns-in_err-note-clause-asks : goal.returns-in_err-note-clause-asks
returns-in_err-note-clause-asks g c =
    asked_fault g.S.Store c.self.inside.conn c.query_meta-asked.new.conn c.self.inside.known c.self.inside.failed c.self.inside.in_doubt c.self.invariant c.query_meta-asked.result _ c.query_meta-asked.ensures.tells c.note.new.failed c.args.self.now c.self.view_is c.in_err-note.field-0.0 (sym c.note.ensures.is ∙ c.in_err-note.was) c.note.ensures.failed c.from_residual.result (err_of c.from_residual.result c.in_err-note.field-0.0 c.from_residual.ensures.1) _

pub returns-in_ok-note-clause-asks : goal.returns-in_ok-note-clause-asks
returns-in_ok-note-clause-asks g c =
    asked_done g.S.Store c.self.inside.conn c.query_meta-asked.new.conn c.self.inside.known c.self.inside.failed c.self.inside.in_doubt c.self.invariant c.query_meta-asked.result _ c.query_meta-asked.ensures.tells c.note.new.failed c.args.self.now c.self.view_is c.in_ok-note.field-0 (sym c.note.ensures.is ∙ c.in_ok-note.was) c.note.ensures.failed

pub invariant_of-self : goal.invariant_of-self
invariant_of-self g c = asked_consistent g.S.Store c.self.inside.conn c.query_meta-asked.new.conn c.self.inside.known c.self.inside.failed c.self.inside.in_doubt c.self.invariant c.query_meta-asked.result _ c.query_meta-asked.ensures.tells c.note.new.failed c.note.new.in_doubt c.note.ensures.failed c.note.ensures.in_doubt

pub invariant_of-self-then-self-2 : goal.invariant_of-self-then-self-2
invariant_of-self-then-self-2 g c = asked_settled g.S.Store c.self.inside.conn c.query_meta-asked.new.conn c.self.inside.known c.self.inside.failed c.self.inside.in_doubt c.self.invariant c.query_meta-asked.result _ c.query_meta-asked.ensures.tells c.note.new.failed c.in_ok-note.field-0 (sym c.note.ensures.is ∙ c.in_ok-note.was)

pub returns-in_ok-note-clause-knows : goal.returns-in_ok-note-clause-knows
returns-in_ok-note-clause-knows g c = asked_knows g.S.Store c.self.inside.conn c.query_meta-asked.new.conn c.self.inside.known c.self.inside.failed c.self.inside.in_doubt c.self.invariant c.query_meta-asked.result _ c.query_meta-asked.ensures.tells c.in_ok-note.field-0 (sym c.note.ensures.is ∙ c.in_ok-note.was)
