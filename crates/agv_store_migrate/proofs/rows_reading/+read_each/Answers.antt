use Rattle.std.proofs.Common.{◌≡◌, ◌≤◌, ◌-◌, List, [], ◌∷◌, length, get_or, take, drop, Ok, ap, arith, subst, sym}
use Rattle.std.proofs.lemmas.List.{take_all}
use Rattle.agv_store_migrate.specs.FirstFound.{ReadsLists, all_lists}
use Rattle.agv_store_migrate.specs.FirstTold.{rows_listed}
use Rattle.agv_store_migrate.proofs.ListsRead.{all_err, first_fails, reads_short, reads_then, reads_then_fails}
use Rattle.agv_store_migrate.proofs.rows_reading.+read_each.Goals as goal

-- the first and the others are the whole
first_and_others : {A : Type 0} (xs : List A) (d : A) → 1 ≤ length xs → (get_or xs 0 d ∷ take (length xs - 1) (drop 1 xs)) ≡ xs
first_and_others [] d low = absurd (omega (arith, low))
first_and_others (x ∷ xs) d low = ap (λ more. x ∷ more) (take_all (length (x ∷ xs) - 1) xs (omega arith))

pub returns-in_err-rows : goal.returns-in_err-rows
returns-in_err-rows g t c =
    subst (λ names. ReadsLists g.S.Store c.args.conn.now c.read_table.new.conn names (all_lists c.from_residual.result)) (first_and_others c.args.tables.now _ c.in-len1-up.len_at_least)
    (first_fails g.S.Store c.args.conn.now c.read_table.new.conn _ _ (all_lists c.from_residual.result) c.in_err-rows.field-0.0 (all_err _ c.from_residual.result c.from_residual.ensures.1) c.in_err-rows.ensures)

pub returns-in_err-lists : goal.returns-in_err-lists
returns-in_err-lists g t c =
    subst (λ names. ReadsLists g.S.Store c.args.conn.now c.read_each.new.conn names (all_lists c.from_residual-in_err-lists.result)) (first_and_others c.args.tables.now _ c.in-len1-up.len_at_least)
    (reads_then_fails g.S.Store c.args.conn.now c.read_table.new.conn c.read_each.new.conn _ _ c.in_ok-rows.rows.items c.in_ok-rows.ensures (all_lists c.from_residual-in_err-lists.result) c.in_err-lists.field-0.0
    (all_err _ c.from_residual-in_err-lists.result c.from_residual-in_err-lists.ensures.1) c.in_err-lists.ensures)

pub returns : goal.returns
returns g t c =
    subst (λ lists. ReadsLists g.S.Store c.args.conn.now c.read_each.new.conn c.args.tables.now (Ok (rows_listed lists))) (sym c.in_ok-insert.ensures.items)
    (subst (λ names. ReadsLists g.S.Store c.args.conn.now c.read_each.new.conn names (Ok (c.in_ok-rows.rows.items ∷ rows_listed c.in_ok-lists.lists.items))) (first_and_others c.args.tables.now _ c.in-len1-up.len_at_least)
    (reads_then g.S.Store c.args.conn.now c.read_table.new.conn c.read_each.new.conn _ _ c.in_ok-rows.rows.items c.in_ok-rows.ensures (rows_listed c.in_ok-lists.lists.items) c.in_ok-lists.ensures))

pub returns-in_err-insert : goal.returns-in_err-insert
returns-in_err-insert g t c =
    subst (λ names. ReadsLists g.S.Store c.args.conn.now c.read_each.new.conn names (all_lists c.from_residual-in_err-insert.result)) (first_and_others c.args.tables.now _ c.in-len1-up.len_at_least)
    (reads_short g.S.Store c.args.conn.now c.read_each.new.conn _ _ (c.in_ok-rows.rows.items ∷ rows_listed c.in_ok-lists.lists.items) (all_lists c.from_residual-in_err-insert.result)
    (all_err _ c.from_residual-in_err-insert.result c.from_residual-in_err-insert.ensures.1)
    (reads_then g.S.Store c.args.conn.now c.read_table.new.conn c.read_each.new.conn _ _ c.in_ok-rows.rows.items c.in_ok-rows.ensures (rows_listed c.in_ok-lists.lists.items) c.in_ok-lists.ensures))
