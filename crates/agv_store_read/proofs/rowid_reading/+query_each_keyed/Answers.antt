use Rattle.std.proofs.Common.{◌≡◌, ◌≤◌, ◌-◌, List, [], ◌∷◌, length, get_or, take, drop, ap, arith, subst}
use Rattle.std.proofs.lemmas.List.{take_all}
use Rattle.agv_store_read.specs.Rowids.{TellsKeyedAlone}
use Rattle.agv_store_read.proofs.RowidsTold.{keyed_fails, keyed_then}
use Rattle.agv_store_read.proofs.rowid_reading.+query_each_keyed.Goals as goal

-- the first and the others are the whole
first_and_others : {A : Type 0} (xs : List A) (d : A) → 1 ≤ length xs → (get_or xs 0 d ∷ take (length xs - 1) (drop 1 xs)) ≡ xs
first_and_others [] d low = absurd (omega (arith, low))
first_and_others (x ∷ xs) d low = ap (λ more. x ∷ more) (take_all (length (x ∷ xs) - 1) xs (omega arith))

pub returns-in_err-keyed : goal.returns-in_err-keyed
returns-in_err-keyed g t c =
    let old = c.args.conn.now in
    let mid = c.query_keyed.new.conn in
    let first = subst (TellsKeyedAlone g.S.Store old mid (c.args.table ∷ [])) c.in_err-keyed.was c.query_keyed.ensures in
    keyed_fails g.S.Store old mid c.args.table c.args.others.now c.in_err-keyed.field-0.0 c.from_residual.result c.from_residual.ensures.1 first

pub returns : goal.returns
returns g t c =
    let old = c.args.conn.now in
    let mid = c.query_keyed.new.conn in
    let first = subst (TellsKeyedAlone g.S.Store old mid (c.args.table ∷ [])) c.in_ok-keyed.was c.query_keyed.ensures in
    let next = subst (λ names. TellsKeyedAlone g.S.Store mid c.query_each_keyed.new.conn names c.query_each_keyed.result) (first_and_others c.args.others.now _ c.in-len1-up.len_at_least) c.query_each_keyed.ensures in
    keyed_then g.S.Store old mid c.query_each_keyed.new.conn c.args.table c.args.others.now c.in_ok-keyed.keyed c.if-not-keyed.false first c.query_each_keyed.result next
