use Rattle.std.proofs.Common.{◌<◌, ◌^◌, ◌∙◌, rules, arith, Ok, Err, ap, refl, subst, sym}
use Rattle.std.specs.Cmp.Lexicographic.{nat_list_cmp_total}
use Rattle.std.specs.Option.{option_copied}
use Rattle.sqlite.specs.Given.{Advances}
use Rattle.agv_store_rows.specs.Columns.{load_columns, load_in}
use Rattle.agv_store_read.specs.declared.open_fault.OpenFault.TheVariants as fault
use Rattle.agv_store_schema.specs.declared.table_name.TableName.TheVariants as the
use Rattle.agv_store_read.proofs.AskingAll.{all_follows}
use Rattle.agv_store_read_tables.proofs.RowsTaken.{IsTaken, fewer_left, not_begun, read_all, refused, taken_all, taken_more, taken_none, taking_failed, told_at}
use Rattle.agv_store_read_tables.proofs.TableAnswers.{tells_places}
use Rattle.agv_store_read.proofs.TablesBack.{shows_table}
use Rattle.agv_store_rows.proofs.ColumnsWritten.{load_written}
use Rattle.agv_store_rows.proofs.ListsFollow.{names_apart}
use Rattle.agv_store_read_tables.proofs.table_reading.query_places.Goals as goal

-- ---- the query

pub returns-in_err-rows : goal.returns-in_err-rows
returns-in_err-rows g c =
    let it = rw c.in_err-rows.was at c.query.follows.holds-at-none in
    not_begun g.S.Store the.Load c.args.conn.now c.query.follows.lender-at-none c.all_rows.result.now c.all_rows.ensures _ _ c.in_err-rows.field-0.0 c.from_residual.result c.from_residual.ensures.1 it.err it.mode it.survives

pub rows-init : goal.rows-init
rows-init g c = (
  refl,
  subst (λ t. IsTaken g.S.Store the.Load load_in c.args.conn.now c.in_ok-rows.rows.conn.now t) (sym c.new-table.ensures)
      (taken_none g.S.Store the.Load load_in c.args.conn.now c.in_ok-rows.rows.conn.now c.all_rows.result.now c.all_rows.ensures c.in_ok-rows.ensures.begun c.in_ok-rows.ensures.mode c.in_ok-rows.ensures.survives),
)

-- ---- the rows

pub returns-in_err-advance : goal.returns-in_err-advance
returns-in_err-advance g c =
    let its = c.in_err-advance.ensures in
    told_at g.S.Store c.args.conn.now c.advance.new.self.conn.now _ (search rules)
    (taking_failed g.S.Store the.Load load_in c.args.conn.now c.rows.rows.conn.now c.advance.new.self.conn.now c.rows.table c.rows.invariant.1 its.survives its.mode
    _ _ c.in_err-advance.field-0.0 c.from_residual-in_err-advance.result c.from_residual-in_err-advance.ensures.1 its.err)

pub returns-in_default : goal.returns-in_default
returns-in_default g c =
    let its = c.in_ok-advance.ensures in
    let so_far = c.rows.invariant.1 in
    let given = so_far.given in
    let read = read_all g.S.Store the.Load load_in c.args.conn.now c.rows.rows.conn.now c.advance.new.self.conn.now c.rows.table so_far its.survives its.mode its.same in
    told_at g.S.Store c.args.conn.now c.advance.new.self.conn.now _ (search rules)
    (all_follows g.S.Store c.args.conn.now c.advance.new.self.conn.now given _ _ _ _ (Ok c.rows.table) tt
    (λ world lawful shown. tells_places world lawful given shown (Ok c.rows.table) read)
    (λ lists shown. shows_table nat_list_cmp_total names_apart load_columns load_in load_written _ given (Ok c.rows.table) read shown)
    (taken_all g.S.Store the.Load load_in c.args.conn.now c.rows.rows.conn.now c.advance.new.self.conn.now c.rows.table so_far its.survives its.mode its.same
    (λ clean. subst (λ row. Advances g.S.Store c.rows.rows.conn.now c.advance.new.self.conn.now row) (sym c.get.ensures ∙ ap option_copied c.in_default.is) (its.ok clean))))

pub rows-smaller : goal.rows-smaller
rows-smaller g c =
    fewer_left nat_list_cmp_total load_in c.rows.table c.take_place.new.table c.in-Some.row.now (subst (λ n. n < 2 ^ 64) c.len-count.ensures (search (rules, arith))) c.in_ok-take_place.ensures.taken

pub rows-preserved : goal.rows-preserved
rows-preserved g c =
    let its = c.in_ok-advance.ensures in (
      its.same_reference ∙ c.rows.invariant.0,
      taken_more g.S.Store the.Load load_in c.args.conn.now c.rows.rows.conn.now c.advance.new.self.conn.now c.rows.table c.rows.invariant.1 its.survives its.mode its.same c.in-Some.row.now
          (λ clean. subst (λ row. Advances g.S.Store c.rows.rows.conn.now c.advance.new.self.conn.now row) (sym c.get.ensures ∙ ap option_copied c.in-Some.is) (its.ok clean))
          c.take_place.new.table c.in_ok-take_place.ensures.taken,
    )

pub returns-in_err-take_place : goal.returns-in_err-take_place
returns-in_err-take_place g c =
    let its = c.in_ok-advance.ensures in
    told_at g.S.Store c.args.conn.now c.advance.new.self.conn.now _ (search rules)
    (refused g.S.Store the.Load load_in c.args.conn.now c.rows.rows.conn.now c.advance.new.self.conn.now c.rows.table c.rows.invariant.1 its.survives its.mode its.same c.in-Some.row.now
    (λ clean. subst (λ row. Advances g.S.Store c.rows.rows.conn.now c.advance.new.self.conn.now row) (sym c.get.ensures ∙ ap option_copied c.in-Some.is) (its.ok clean))
    _ _ (λ world lawful rows shown none. tells_places world lawful rows shown (Err fault.Damaged) none)
    c.in_err-take_place.field-0.0 c.in_err-take_place.ensures.refused c.from_residual-in_err-take_place.result c.from_residual-in_err-take_place.ensures.1)
