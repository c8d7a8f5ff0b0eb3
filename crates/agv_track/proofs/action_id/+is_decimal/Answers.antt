use Rattle.std.proofs.Common.{nat_eq, decimal, sym, ap, ◌∙◌}
use Rattle.std.specs.Cmp.Lexicographic.{pointwise}
use Rattle.agv_track.proofs.Ids.{by_digit, by_digits, other_digit, no_digit, none_before}
use Rattle.agv_track.proofs.action_id.+is_decimal.Goals as goal

pub returns-in_default : goal.returns-in_default
returns-in_default t c = no_digit c.args.number c.ranges.number.fits c.args.digits.now c.in_default.ensures.cases

pub returns-then-from-number : goal.returns-then-from-number
returns-then-from-number t c =
    other_digit c.in-Some.front.now c.in-Some.last.now c.args.number c.ranges.number.fits (λ e. c.if-from-number.true (c.from.ensures ∙ e))
    ∙ ap (λ d. pointwise nat_eq d (decimal c.args.number)) (sym c.in-Some.ensures.cases.0)

pub returns-then-number-lt10 : goal.returns-then-number-lt10
returns-then-number-lt10 t c =
    c.is_empty.ensures
    ∙ none_before c.in-Some.front.now
    ∙ sym (by_digit c.in-Some.front.now c.in-Some.last.now c.args.number c.if-number-lt10.true (sym c.from.ensures ∙ c.if-from-number.false))
    ∙ ap (λ d. pointwise nat_eq d (decimal c.args.number)) (sym c.in-Some.ensures.cases.0)

pub returns-else-number-lt10 : goal.returns-else-number-lt10
returns-else-number-lt10 t c =
    c.is_decimal.ensures
    ∙ sym (by_digits c.in-Some.front.now c.in-Some.last.now c.args.number c.if-number-lt10.false c.ranges.number.fits (sym c.from.ensures ∙ c.if-from-number.false))
    ∙ ap (λ d. pointwise nat_eq d (decimal c.args.number)) (sym c.in-Some.ensures.cases.0)
