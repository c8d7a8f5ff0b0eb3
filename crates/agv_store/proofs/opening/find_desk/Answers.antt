use Rattle.std.proofs.Common.{not, ap, subst, ◌∙◌}
use Rattle.agv_store_schema.specs.SchemaNumbers.{desk_seats}
use Rattle.agv_store_create.specs.StandingTables.{TablesStand}
use Rattle.agv_store.proofs.Found.{finds_desk, finds_fault, finds_fault_then, finds_no_memory, finds_unlawful}
use Rattle.agv_store.proofs.opening.find_desk.Goals as goal

pub returns-in_err-query_rowids : goal.returns-in_err-query_rowids
returns-in_err-query_rowids g c =
    finds_fault g.S.Store c.args.conn.now c.query_rowids.new.conn
    c.from_residual-in_err-query_rowids.result c.in_err-query_rowids.field-0.0 _ c.from_residual-in_err-query_rowids.ensures.1 c.in_err-query_rowids.ensures.tells
    (subst TablesStand c.schema.ensures.value (c.in_ok-stand.ensures.0 c.if-not-stand.false)) c.in_err-query_rowids.ensures.exact.caused

pub returns-in_err-tables : goal.returns-in_err-tables
returns-in_err-tables g c =
    let keyed = c.in_ok-query_rowids.ensures in
    finds_fault_then g.S.Store c.args.conn.now c.query_rowids.new.conn c.read_world.new.conn c.in_ok-query_rowids.field-0 c.if-not-branch.false keyed.exact keyed.tells
    c.from_residual-in_err-tables.result c.in_err-tables.field-0.0 _ _ c.from_residual-in_err-tables.ensures.1 c.in_err-tables.ensures
    (subst TablesStand c.schema.ensures.value (c.in_ok-stand.ensures.0 c.if-not-stand.false))

pub returns-in_err-are_of_a_lawful_world : goal.returns-in_err-are_of_a_lawful_world
returns-in_err-are_of_a_lawful_world g c =
    let keyed = c.in_ok-query_rowids.ensures in
    finds_no_memory g.S.Store c.args.conn.now c.query_rowids.new.conn c.read_world.new.conn c.in_ok-query_rowids.field-0 c.if-not-branch.false keyed.exact keyed.tells
    c.in_ok-tables.tables c.in_ok-tables.holds c.in_ok-tables.ensures c.from_residual-in_err-are_of_a_lawful_world.result c.from_residual-in_err-are_of_a_lawful_world.ensures.1

pub returns-then-not-branch-2 : goal.returns-then-not-branch-2
returns-then-not-branch-2 g c =
    let keyed = c.in_ok-query_rowids.ensures in
    finds_unlawful g.S.Store c.args.conn.now c.query_rowids.new.conn c.read_world.new.conn c.in_ok-query_rowids.field-0 c.if-not-branch.false keyed.exact keyed.tells
    c.in_ok-tables.tables c.in_ok-tables.holds c.in_ok-tables.ensures c.in_ok-are_of_a_lawful_world.field-0 c.if-not-branch-2.true c.in_ok-are_of_a_lawful_world.ensures

pub returns-in_err-known : goal.returns-in_err-known
returns-in_err-known g c =
    let keyed = c.in_ok-query_rowids.ensures in
    finds_no_memory g.S.Store c.args.conn.now c.query_rowids.new.conn c.read_world.new.conn c.in_ok-query_rowids.field-0 c.if-not-branch.false keyed.exact keyed.tells
    c.in_ok-tables.tables c.in_ok-tables.holds c.in_ok-tables.ensures c.from_residual-in_err-known.result c.from_residual-in_err-known.ensures.1

pub returns : goal.returns
returns g c =
    let keyed = c.in_ok-query_rowids.ensures in
    let its = c.in_ok-are_of_a_lawful_world.ensures.0 c.if-not-branch-2.false in
    finds_desk g.S.Store c.args.conn.now c.query_rowids.new.conn c.read_world.new.conn c.in_ok-query_rowids.field-0 c.if-not-branch.false keyed.exact keyed.tells
    c.in_ok-tables.tables c.in_ok-tables.holds c.in_ok-tables.ensures c.tables_read_tell_the_world.ensures.world c.a_database_tells_its_world.ensures (subst TablesStand c.schema.ensures.value (c.in_ok-stand.ensures.0 c.if-not-stand.false))
    its.0 its.1 its.2 its.3 c.requires (c.is_autocommit-settled.ensures.settled (c.is_autocommit-settled.ensures.value ∙ ap not c.requires)) (λ still. (c.schema.ensures.live still).0)
    c.in_ok-known.known (c.in_ok-known.ensures desk_seats its.0 its.2 its.1)
