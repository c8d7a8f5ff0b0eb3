use Rattle.agv_desk.proofs.laws.reports.exports_its_layout.Goals as goal

pub returns : goal.returns
returns c = λ world keeps. c.export_gives_layout.ensures.back world.layout keeps
