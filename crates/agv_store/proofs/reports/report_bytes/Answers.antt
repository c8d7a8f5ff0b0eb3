use Rattle.agv_store.proofs.Reporting.{crash, fails_still, knew_before, leaves_all, was_open}
use Rattle.agv_store.proofs.reports.report_bytes.Goals as goal

pub returns-clause-knew : goal.returns-clause-knew
returns-clause-knew g c = knew_before g.S.Store _ c.args.floor.now c.reported.new.floor c.knows.ensures c.reported.result c.reported.ensures.tells c.reported.ensures.knows

pub returns-clause-unchanged : goal.returns-clause-unchanged
returns-clause-unchanged g c = leaves_all g.S.Store _ c.args.floor.now c.reported.new.floor c.knows.ensures c.reported.result c.reported.ensures.tells

pub returns-clause-was_open : goal.returns-clause-was_open
returns-clause-was_open g c = was_open g.S.Store _ c.args.floor.now c.reported.new.floor c.reported.result c.reported.ensures.tells

pub returns-clause-crash : goal.returns-clause-crash
returns-clause-crash g c = crash g.S.Store _ c.args.floor.now c.reported.new.floor c.reported.result c.reported.ensures.tells

pub returns-clause-fails : goal.returns-clause-fails
returns-clause-fails g c = fails_still g.S.Store _ c.args.floor.now c.reported.new.floor c.reported.result c.reported.ensures.tells
