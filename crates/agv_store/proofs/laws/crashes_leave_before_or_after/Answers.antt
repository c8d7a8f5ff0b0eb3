use Rattle.agv_store.proofs.Crashes.{either, known}
use Rattle.agv_store.proofs.laws.crashes_leave_before_or_after.Goals as goal

pub returns : goal.returns
returns g c = record {
  either = either g.S.Store g.met.S.Store.settled;
  known = known g.S.Store g.met.S.Store.settled;
}
