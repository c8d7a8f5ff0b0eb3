use Rattle.std.proofs.Common.{lit<}
use Rattle.agv_count.proofs.FieldLemmas.{too_few, two_at}
use Rattle.agv_count.proofs.count_file.two_fields.Goals as goal

pub returns-in_err-get-clause-none : goal.returns-in_err-get-clause-none
returns-in_err-get-clause-none c = rw c.from_residual.ensures (too_few _ 2 0 (lit< tt) c.in_err-get.ensures.value)

pub returns-in_err-get-2-clause-none : goal.returns-in_err-get-2-clause-none
returns-in_err-get-2-clause-none c = rw c.from_residual-in_err-get-2.ensures (too_few _ 2 1 (lit< tt) c.in_err-get-2.ensures.value)

pub returns-clause-some : goal.returns-clause-some
returns-clause-some c = two_at _ _ _ (cc) c.in_ok-get.ensures.value c.in_ok-get-2.ensures.value
