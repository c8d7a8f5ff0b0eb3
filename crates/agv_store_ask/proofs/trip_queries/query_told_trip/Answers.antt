use Rattle.std.proofs.Common.{Ok, Some, ap, sym, ◌∙◌}
use Rattle.agv_store_read.proofs.Asking.{passes, then_follows, then_passes}
use Rattle.agv_store_ask.proofs.TripAnswers.{told_journey}
use Rattle.agv_store_ask.proofs.trip_queries.query_told_trip.Goals as goal

pub returns-in_err-acts : goal.returns-in_err-acts
returns-in_err-acts g c = passes g.S.Store c.args.conn.now c.query_acts.new.conn c.in_err-acts.field-0.0 _ _ c.from_residual.result c.from_residual.ensures.1 c.in_err-acts.ensures

pub returns-in_err-edges : goal.returns-in_err-edges
returns-in_err-edges g c =
    then_passes g.S.Store c.args.conn.now c.query_acts.new.conn c.query_way.new.conn c.in_ok-acts.acts _ c.in_ok-acts.ensures
    c.in_err-edges.field-0.0 _ _ c.from_residual-in_err-edges.result c.from_residual-in_err-edges.ensures.1 c.in_err-edges.ensures

pub returns : goal.returns
returns g c =
    then_follows g.S.Store c.args.conn.now c.query_acts.new.conn c.query_way.new.conn c.in_ok-acts.acts _ c.in_ok-acts.ensures
    c.in_ok-edges.edges _ _ (Ok _)
    (λ world lawful one two agrees. told_journey world c.args.journey.now c.in_ok-acts.acts c.in_ok-edges.edges one (two agrees) ∙ ap Some (sym c.trip_told.ensures)) c.in_ok-edges.ensures
