use Rattle.std.proofs.Common.{Ok, ◌∙◌}
use Rattle.agv_store_read.proofs.Asking.{passes, then_follows, then_passes}
use Rattle.agv_store_ask.proofs.JobAnswers.{reserved_in_all}
use Rattle.agv_store_ask.proofs.load_queries.query_reserved.Goals as goal

pub returns-in_err-waiting : goal.returns-in_err-waiting
returns-in_err-waiting g c = passes g.S.Store c.args.conn.now c.query_jobs_to.new.conn c.in_err-waiting.field-0.0 _ _ c.from_residual.result c.from_residual.ensures.1 c.in_err-waiting.ensures

pub returns-in_err-riding : goal.returns-in_err-riding
returns-in_err-riding g c =
    then_passes g.S.Store c.args.conn.now c.query_jobs_to.new.conn c.query_jobs_to-2.new.conn c.in_ok-waiting.waiting _ c.in_ok-waiting.ensures
    c.in_err-riding.field-0.0 _ _ c.from_residual-in_err-riding.result c.from_residual-in_err-riding.ensures.1 c.in_err-riding.ensures

pub returns : goal.returns
returns g c =
    then_follows g.S.Store c.args.conn.now c.query_jobs_to.new.conn c.query_jobs_to-2.new.conn c.in_ok-waiting.waiting _ c.in_ok-waiting.ensures
    c.in_ok-riding.riding _ _ (Ok c.saturating_add.result) (λ world lawful one two. c.saturating_add.ensures ∙ reserved_in_all world lawful c.args.station.now c.in_ok-waiting.waiting c.in_ok-riding.riding one two) c.in_ok-riding.ensures
