use Rattle.std.proofs.Common.{Ok, ap₂, sym, ◌∙◌}
use Rattle.std.specs.Option.{option_or}
use Rattle.agv_store_read.proofs.Asking.{passes, then_follows, then_passes}
use Rattle.agv_store_ask.proofs.JobAnswers.{live_job}
use Rattle.agv_store_ask.proofs.load_queries.query_job_of.Goals as goal

pub returns-in_err-waiting : goal.returns-in_err-waiting
returns-in_err-waiting g c = passes g.S.Store c.args.conn.now c.query_job_in.new.conn c.in_err-waiting.field-0.0 _ _ c.from_residual.result c.from_residual.ensures.1 c.in_err-waiting.ensures

pub returns-in_err-riding : goal.returns-in_err-riding
returns-in_err-riding g c =
    then_passes g.S.Store c.args.conn.now c.query_job_in.new.conn c.query_job_in-2.new.conn c.in_ok-waiting.waiting _ c.in_ok-waiting.ensures
    c.in_err-riding.field-0.0 _ _ c.from_residual-in_err-riding.result c.from_residual-in_err-riding.ensures.1 c.in_err-riding.ensures

pub returns : goal.returns
returns g c =
    then_follows g.S.Store c.args.conn.now c.query_job_in.new.conn c.query_job_in-2.new.conn c.in_ok-waiting.waiting _ c.in_ok-waiting.ensures
    c.in_ok-riding.riding _ _ (Ok c.or.result) (λ world lawful one two. c.or.ensures ∙ ap₂ option_or one two ∙ sym (live_job world lawful c.args.load.now)) c.in_ok-riding.ensures
