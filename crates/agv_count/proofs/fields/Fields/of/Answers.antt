use Rattle.std.proofs.Common.{lit<}
use Rattle.agv_count.proofs.FieldLemmas.{four_fields, too_few}
use Rattle.agv_count.proofs.fields.Fields.of.Goals as goal

pub returns-in_err-get-clause-none : goal.returns-in_err-get-clause-none
returns-in_err-get-clause-none c = rw c.from_residual.ensures (too_few _ 4 0 (lit< tt) c.in_err-get.ensures.value)

pub returns-in_err-get-2-clause-none : goal.returns-in_err-get-2-clause-none
returns-in_err-get-2-clause-none c = rw c.from_residual-in_err-get-2.ensures (too_few _ 4 1 (lit< tt) c.in_err-get-2.ensures.value)

pub returns-in_err-get-3-clause-none : goal.returns-in_err-get-3-clause-none
returns-in_err-get-3-clause-none c = rw c.from_residual-in_err-get-3.ensures (too_few _ 4 2 (lit< tt) c.in_err-get-3.ensures.value)

pub returns-in_err-get-4-clause-none : goal.returns-in_err-get-4-clause-none
returns-in_err-get-4-clause-none c = rw c.from_residual-in_err-get-4.ensures (too_few _ 4 3 (lit< tt) c.in_err-get-4.ensures.value)

pub returns-clause-some : goal.returns-clause-some
returns-clause-some c =
    four_fields _ _ _ _ _ (cc) c.in_ok-get.ensures.value c.in_ok-get-2.ensures.value c.in_ok-get-3.ensures.value c.in_ok-get-4.ensures.value
