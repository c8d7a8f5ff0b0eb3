use Rattle.std.proofs.Common.{inl, not, ap, subst, sym, ◌∙◌}
use Rattle.sqlite.specs.Held.{state}
use Rattle.sqlite.specs.State.{Survives}
use Rattle.agv_store_migrate.specs.Moved.{CanBeAdded}
use Rattle.agv_store_schema.specs.Connections.{IsClean}
use Rattle.agv_store_floor.specs.Floors.{Keyed}
use Rattle.agv_store.specs.Migration.{LeavesMigrated, Migrates}
use Rattle.agv_store.proofs.Moving.{could_be_added, crash_leaves, damaged_only, migrates, move_caused, moved_consistent, none_added, storage_only}
use Rattle.agv_store.proofs.desk.Desk.migrate.Goals as goal

pub returns-in-Err-clause-damaged : goal.returns-in-Err-clause-damaged
returns-in-Err-clause-damaged g c clean is = inl (c.in-Err.ensures.damaged clean (damaged_only c.find_first_desk.new.conn c.in-Err.why is))

pub returns-in-Err-clause-caused : goal.returns-in-Err-clause-caused
returns-in-Err-clause-caused g c clean is = inl (c.in-Err.ensures.caused clean (storage_only c.find_first_desk.new.conn c.in-Err.why is))

pub new-requires : goal.new-requires
new-requires g c =
    let its = c.in-Ok-move_tables.ensures in
    moved_consistent g.S.Store c.args.conn c.find_first_desk.new.conn c.move_tables.new.conn c.in-Ok.found.0 c.in-Ok.found.1 c.in-Ok.ensures
    (c.is_autocommit-settled.ensures.settled (c.is_autocommit-settled.ensures.value ∙ ap not c.requires)) its.crash its.idle its.open its.all_committed its.made c.a_database_tells_its_world.ensures

pub returns-in-Ok-move_tables-clause-migrated : goal.returns-in-Ok-move_tables-clause-migrated
returns-in-Ok-move_tables-clause-migrated g c =
    let its = c.in-Ok-move_tables.ensures in
    subst (λ (desk : Keyed g.row.S.Denot). IsClean g.S.Store desk.held → Migrates g.S.Store c.args.conn desk) (sym c.new.ensures)
    (migrates g.S.Store c.args.conn c.find_first_desk.new.conn c.move_tables.new.conn c.in-Ok.found.0 c.in-Ok.found.1 c.in-Ok.ensures
    (c.is_autocommit-settled.ensures.settled (c.is_autocommit-settled.ensures.value ∙ ap not c.requires)) its.crash its.idle its.open its.all_committed its.made)

pub returns-in-Ok-move_tables-clause-possible : goal.returns-in-Ok-move_tables-clause-possible
returns-in-Ok-move_tables-clause-possible g c =
    subst (λ (desk : Keyed g.row.S.Denot). IsClean g.S.Store desk.held → CanBeAdded (state g.S.Store c.args.conn).now.schema) (sym c.new.ensures)
    (could_be_added g.S.Store c.args.conn c.find_first_desk.new.conn c.move_tables.new.conn c.in-Ok.found.0 c.in-Ok.found.1 c.in-Ok.ensures
    (c.is_autocommit-settled.ensures.settled (c.is_autocommit-settled.ensures.value ∙ ap not c.requires)) c.in-Ok-move_tables.ensures.crash _ c.in-Ok-move_tables.ensures.taken)

pub returns-in-Ok-move_tables-clause-crash : goal.returns-in-Ok-move_tables-clause-crash
returns-in-Ok-move_tables-clause-crash g c =
    subst (λ (desk : Keyed g.row.S.Denot). Survives (state g.S.Store c.args.conn) (state g.S.Store desk.held) (LeavesMigrated (state g.S.Store c.args.conn).now)) (sym c.new.ensures)
    (crash_leaves g.S.Store c.args.conn c.find_first_desk.new.conn c.move_tables.new.conn c.in-Ok.found.0 c.in-Ok.found.1 c.in-Ok.ensures
    (c.is_autocommit-settled.ensures.settled (c.is_autocommit-settled.ensures.value ∙ ap not c.requires)) c.in-Ok-move_tables.ensures.crash)

pub returns-clause-damaged : goal.returns-clause-damaged
returns-clause-damaged g c =
    none_added g.S.Store c.args.conn c.find_first_desk.new.conn c.move_tables.new.conn c.in-Ok.found.0 c.in-Ok.found.1 c.in-Ok.ensures
    (c.is_autocommit-settled.ensures.settled (c.is_autocommit-settled.ensures.value ∙ ap not c.requires)) c.in-Err-move_tables.why c.of_making.result c.of_making.ensures
    c.in-Err-move_tables.ensures.taken c.in-Err-move_tables.ensures.refused

pub returns-clause-caused : goal.returns-clause-caused
returns-clause-caused g c =
    move_caused g.S.Store c.args.conn c.find_first_desk.new.conn c.move_tables.new.conn c.in-Ok.found.0 c.in-Ok.found.1 c.in-Ok.ensures
    (c.is_autocommit-settled.ensures.settled (c.is_autocommit-settled.ensures.value ∙ ap not c.requires)) c.move_tables.ensures.crash c.in-Err-move_tables.why c.of_making.result c.of_making.ensures
    c.in-Err-move_tables.ensures.taken c.in-Err-move_tables.ensures.caused

pub returns-clause-crash : goal.returns-clause-crash
returns-clause-crash g c =
    crash_leaves g.S.Store c.args.conn c.find_first_desk.new.conn c.move_tables.new.conn c.in-Ok.found.0 c.in-Ok.found.1 c.in-Ok.ensures
    (c.is_autocommit-settled.ensures.settled (c.is_autocommit-settled.ensures.value ∙ ap not c.requires)) c.move_tables.ensures.crash
