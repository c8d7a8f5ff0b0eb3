use Rattle.agv_store.proofs.Crashes.{migrated}
use Rattle.agv_store.proofs.laws.crashes_leave_the_first_schema_or_this.Goals as goal

pub returns : goal.returns
returns g c old new is_open settled listed clean survives trees left = migrated g.S.Store g.met.S.Store.settled old is_open settled listed trees new clean survives left
