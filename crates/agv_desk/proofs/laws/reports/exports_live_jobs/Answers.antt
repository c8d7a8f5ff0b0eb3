use Rattle.agv_desk.proofs.exports.JobsTold.{told_if_live, told_in_order}
use Rattle.agv_desk.proofs.laws.reports.exports_live_jobs.Goals as goal

pub returns-clause-live : goal.returns-clause-live
returns-clause-live c = told_if_live

pub returns-clause-once : goal.returns-clause-once
returns-clause-once c = told_in_order
