use Rattle.sqlite.specs.Held.{state}
use Rattle.agv_world_core.specs.Worlds.{empty_world}
use Rattle.agv_store.specs.Migration.{FirstFound}
use Rattle.agv_store.specs.Serving.{FoundIn}
use Rattle.agv_store.proofs.Crashes.{is_one, made, migrated, only_read, opened, undamaged}
use Rattle.agv_store.proofs.laws.crashes_damage_nothing.Goals as goal

pub returns : goal.returns
returns g c = record {
  made = λ old new is_open settled listed can clean survives found also left.
      undamaged c.trees_tell_schemas.ensures.schema (state g.S.Store old).now found (λ db. FoundIn db empty_world) (λ db has. (empty_world, has)) also
      (made g.S.Store g.met.S.Store.settled c.made_desks_stand.ensures c.new_desks_know_nothing.ensures.world old is_open settled listed found.trees new can clean survives left);
  opened = λ old new is_open settled listed clean survives found also left.
      undamaged c.trees_tell_schemas.ensures.schema (state g.S.Store old).now found (λ db. FoundIn db empty_world) (λ db has. (empty_world, has)) also
      (opened g.S.Store g.met.S.Store.settled c.made_desks_stand.ensures c.new_desks_know_nothing.ensures.world old is_open settled listed found.trees new clean survives left);
  adopted = λ old new is_open settled listed clean survives found also left.
      is_one c.trees_tell_schemas.ensures.schema (state g.S.Store old).now found also
      (only_read g.S.Store g.met.S.Store.settled old new is_open settled listed clean survives found.trees left);
  migrated = λ old new is_open settled listed clean survives found also left.
      undamaged c.trees_tell_schemas.ensures.schema (state g.S.Store old).now found (λ db. (had : FirstFound (state g.S.Store old).now) × FoundIn db had.world) (λ db has. (has.0.world, has.1)) also
      (migrated g.S.Store g.met.S.Store.settled old is_open settled listed found.trees new clean survives left);
}
