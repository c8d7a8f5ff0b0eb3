use Rattle.agv_count.proofs.FieldLemmas.{short_digits}
use Rattle.agv_count.proofs.fields.is_capacity.Goals as goal

pub returns-then-field-le-MAX_CAPACITY_DIGITS : goal.returns-then-field-le-MAX_CAPACITY_DIGITS
returns-then-field-le-MAX_CAPACITY_DIGITS c =
    short_digits _ _ _ c.is_empty.ensures c.if-field-le-MAX_CAPACITY_DIGITS.true.0 c.if-field-le-MAX_CAPACITY_DIGITS.true.1 c.are_digits.ensures
