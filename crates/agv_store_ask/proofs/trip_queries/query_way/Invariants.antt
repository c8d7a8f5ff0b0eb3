use Rattle.std.proofs.Common.{Ok}
use Rattle.agv_store_read.specs.WorldAnswers.{AnswersQuery}
use Rattle.agv_store_ask.proofs.TripAnswers.{Goes}
use Rattle.agv_store_ask.proofs.trip_queries.query_way.Given as goal

-- the edges so far, and those of what is left, are all
abbrev pub invariant-loop-id : goal.invariant-loop-id
invariant-loop-id g l = AnswersQuery g.S.Store l.fn.conn l.conn (Ok tt) (Goes l.known l.edges.items l.id-iterator l.order)
