use Rattle.agv_store_floor.proofs.Asked.{err_of}
use Rattle.agv_store.proofs.Deciding.{decided_between, ends_faulted}
use Rattle.agv_store.proofs.serving.decided.Goals as goal

pub returns-in_err-decision-clause-ends : goal.returns-in_err-decision-clause-ends
returns-in_err-decision-clause-ends g c =
    ends_faulted g.S.Store c.settle.new.self c.decide.new.floor c.in_ok-settle.ensures.ends c.in_err-decision.field-0.0 c.in_err-decision.ensures.decides
    c.from_residual-in_err-decision.result (err_of c.from_residual-in_err-decision.result c.in_err-decision.field-0.0 c.from_residual-in_err-decision.ensures.1)

pub returns-clause-decides : goal.returns-clause-decides
returns-clause-decides g c =
    decided_between g.S.Store c.serves_lawful_worlds.ensures.order c.serves_lawful_worlds.ensures.served c.keeps_lawful.ensures c.serves_what_was_decided.ensures c.args.at c.ms-ms.ensures.range c.args.call.now c.typing_law.ensures c.requires.no_report
    c.in_ok-decision.decision c.args.floor.now c.settle.new.self c.decide.new.floor c.settle-2.new.self
    c.in_ok-settle.ensures.asks c.in_ok-decision.ensures.decides c.in_ok-decision.ensures.changes c.in_ok-settle-2.ensures.asks
