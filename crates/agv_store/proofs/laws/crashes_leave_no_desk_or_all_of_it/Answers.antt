use Rattle.agv_store.proofs.Crashes.{made, opened}
use Rattle.agv_store.proofs.laws.crashes_leave_no_desk_or_all_of_it.Goals as goal

pub returns : goal.returns
returns g c = record {
  made = λ old new is_open settled listed can clean survives trees left.
      made g.S.Store g.met.S.Store.settled c.made_desks_stand.ensures c.new_desks_know_nothing.ensures.world old is_open settled listed trees new can clean survives left;
  opened = λ old new is_open settled listed clean survives trees left.
      opened g.S.Store g.met.S.Store.settled c.made_desks_stand.ensures c.new_desks_know_nothing.ensures.world old is_open settled listed trees new clean survives left;
}
