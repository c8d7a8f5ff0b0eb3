use Rattle.agv_store.proofs.Reporting.{served_call}
use Rattle.agv_store.proofs.serving.serve.Goals as goal

pub returns-in-Some-clause-serves : goal.returns-in-Some-clause-serves
returns-in-Some-clause-serves g c clean =
    served_call g.S.Store c.args.floor.now.held c.serve_report.new.floor.held c.in-Some.report c.args.call.now c.in-Some.ensures.call c.args.at c.serve_report.result
    (c.serve_report.ensures.serves clean)
