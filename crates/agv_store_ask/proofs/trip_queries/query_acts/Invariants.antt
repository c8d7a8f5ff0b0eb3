use Rattle.std.proofs.Common.{Ok}
use Rattle.agv_store_read.specs.WorldAnswers.{AnswersQuery}
use Rattle.agv_store_ask.proofs.TripAnswers.{GoesActs}
use Rattle.agv_store_ask.proofs.trip_queries.query_acts.Given as goal

-- the acts so far, and those of what is left, are all
abbrev pub invariant-loop-key : goal.invariant-loop-key
invariant-loop-key g l = AnswersQuery g.S.Store l.fn.conn l.conn (Ok tt) (GoesActs l.acts.items l.key-iterator l.order)
