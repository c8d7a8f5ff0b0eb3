use Rattle.agv_store.proofs.Crashes.{only_read}
use Rattle.agv_store.proofs.laws.crashes_leave_what_is_only_read.Goals as goal

pub returns : goal.returns
returns g c = only_read g.S.Store g.met.S.Store.settled
