use Rattle.std.proofs.Common.{◌≡◌, ◌++◌}
use Rattle.agv_track.specs.Reports.{renewed}
use Rattle.agv_desk.proofs.states.renewed.Given as goal

abbrev pub invariant-loop-act : goal.invariant-loop-act
invariant-loop-act l = l.made.items ++ renewed l.act-iterator.a.rest.now l.act-iterator.b.rest.now ≡ renewed l.acts l.statuses
