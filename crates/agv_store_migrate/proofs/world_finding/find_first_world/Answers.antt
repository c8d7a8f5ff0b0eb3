use Rattle.std.proofs.Common.{Err, sym, subst}
use Rattle.agv_track_holds.specs.Holds.{Holds as Holders}
use Rattle.agv_world_core.specs.declared.world.World.{World as Tables}
use Rattle.agv_store_migrate.specs.FirstFound.{FirstTablesStand}
use Rattle.agv_store_migrate.specs.FirstTold.{Finds, TellFirst, rows_listed}
use Rattle.agv_store_migrate.proofs.Found.{found, no_memory, no_memory_before, not_first, reading_fails, tables_missing, telling_fails}
use Rattle.agv_store_migrate.proofs.world_finding.find_first_world.Goals as goal

pub returns-in_err-first_tables_stand : goal.returns-in_err-first_tables_stand
returns-in_err-first_tables_stand g c =
    no_memory_before g.S.Store c.args.conn.now c.from_residual.result c.from_residual.ensures.1

pub returns-then-not-branch : goal.returns-then-not-branch
returns-then-not-branch g c =
    tables_missing g.S.Store c.args.conn.now c.in_ok-first_tables_stand.field-0 c.if-not-branch.true
    ((λ yes. subst FirstTablesStand c.schema.ensures.value (c.in_ok-first_tables_stand.ensures.0 yes)), (λ stand. c.in_ok-first_tables_stand.ensures.1 (subst FirstTablesStand (sym c.schema.ensures.value) stand)))

pub returns-in_err-lists : goal.returns-in_err-lists
returns-in_err-lists g c =
    reading_fails g.S.Store c.args.conn.now c.read_first_tables.new.conn c.from_residual-in_err-lists.result c.in_err-lists.field-0.0 c.from_residual-in_err-lists.ensures.1
    (subst FirstTablesStand c.schema.ensures.value (c.in_ok-first_tables_stand.ensures.0 c.if-not-branch.false)) c.in_err-lists.ensures

pub returns-in_err-tables : goal.returns-in_err-tables
returns-in_err-tables g c =
    telling_fails g.S.Store c.first_rows_tell_their_world.ensures c.args.conn.now c.read_first_tables.new.conn (rows_listed c.in_ok-lists.lists.items) c.in_ok-lists.ensures c.from_residual-in_err-tables.result c.in_err-tables.field-0.0 c.from_residual-in_err-tables.ensures.1
    (subst (λ lists. Finds {A = Tables × Holders} (Err c.in_err-tables.field-0.0) (λ read. TellFirst (rows_listed lists) read.0 read.1)) c.deref.ensures.value c.in_err-tables.ensures)

pub returns-in_err-are_of_a_first_world : goal.returns-in_err-are_of_a_first_world
returns-in_err-are_of_a_first_world g c =
    no_memory g.S.Store c.first_rows_tell_their_world.ensures c.args.conn.now c.read_first_tables.new.conn (rows_listed c.in_ok-lists.lists.items) c.in_ok-lists.ensures c.from_residual-in_err-are_of_a_first_world.result c.from_residual-in_err-are_of_a_first_world.ensures.1

pub returns-then-not-branch-2 : goal.returns-then-not-branch-2
returns-then-not-branch-2 g c =
    let told = subst (λ lists. TellFirst (rows_listed lists) c.in_ok-tables.tables c.in_ok-tables.held.table) c.deref.ensures.value c.in_ok-tables.ensures in
    not_first g.S.Store c.first_rows_tell_their_world.ensures c.args.conn.now c.read_first_tables.new.conn (rows_listed c.in_ok-lists.lists.items) c.in_ok-lists.ensures c.in_ok-tables.tables c.in_ok-tables.held told c.in_ok-are_of_a_first_world.field-0 c.if-not-branch-2.true c.in_ok-are_of_a_first_world.ensures

pub returns : goal.returns
returns g c =
    let told = subst (λ lists. TellFirst (rows_listed lists) c.in_ok-tables.tables c.in_ok-tables.held.table) c.deref.ensures.value c.in_ok-tables.ensures in
    found g.S.Store c.first_rows_tell_their_world.ensures c.args.conn.now c.read_first_tables.new.conn (rows_listed c.in_ok-lists.lists.items) c.in_ok-lists.ensures c.in_ok-tables.tables c.in_ok-tables.held told
    (subst FirstTablesStand c.schema.ensures.value (c.in_ok-first_tables_stand.ensures.0 c.if-not-branch.false)) (c.in_ok-are_of_a_first_world.ensures.0 c.if-not-branch-2.false)
