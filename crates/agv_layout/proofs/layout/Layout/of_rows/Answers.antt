use Rattle.std.proofs.Common.{Ok, refl, sym, ap, subst, ◌∙◌}
use Rattle.std.proofs.lemmas.Bool.{iff_false}
use Rattle.agv_layout.specs.Draft.{IsWhole}
use Rattle.agv_layout.specs.Layout.{KeepsRules}
use Rattle.agv_layout.specs.Rows.{IsLayoutOf}
use Rattle.agv_layout.proofs.LayoutGiven.{over_limit_given, sound_given, bad_given, twice_passed_on}
use Rattle.agv_layout.proofs.Sound.{is_layout_of, sound_from, whole_from, plan_from}
use Rattle.agv_layout.proofs.layout.Layout.of_rows.Goals as goal

pub returns-then-are_over_limit-clause-limit : goal.returns-then-are_over_limit-clause-limit
returns-then-are_over_limit-clause-limit c = (λ _. c.are_over_limit.ensures.0 c.if-are_over_limit.true, λ _. refl)

pub returns-then-are_over_limit-clause-bad : goal.returns-then-are_over_limit-clause-bad
returns-then-are_over_limit-clause-bad c = λ e. absurd (cc e)

pub returns-then-not-is_whole-clause-bad : goal.returns-then-not-is_whole-clause-bad
returns-then-not-is_whole-clause-bad c _ =
    let drawn = c.in_ok-draft.ensures.drawn in (
      iff_false c.are_over_limit.ensures c.if-are_over_limit.false,
      λ sound. iff_false c.is_whole.ensures c.if-not-is_whole.true (subst IsWhole (sym drawn) (whole_from c.args.rows.now sound)),
    )

pub invariant_of-result : goal.invariant_of-result
invariant_of-result c =
    let drawn = c.in_ok-draft.ensures.drawn in
    let whole = subst IsWhole drawn (c.is_whole.ensures.0 c.if-not-is_whole.false) in
    subst KeepsRules (sym drawn) (plan_from c.args.rows.now (iff_false c.are_over_limit.ensures c.if-are_over_limit.false) c.in_ok-draft.ensures.once c.in_ok-draft.ensures.named whole)

pub returns-clause-ok : goal.returns-clause-ok
returns-clause-ok c =
    let rows = c.args.rows.now in
    let drawn = c.in_ok-draft.ensures.drawn in
    let whole = subst IsWhole drawn (c.is_whole.ensures.0 c.if-not-is_whole.false) in (
      iff_false c.are_over_limit.ensures c.if-are_over_limit.false,
      sound_from rows c.in_ok-draft.ensures.once whole,
      subst (IsLayoutOf rows) (sym drawn) (is_layout_of rows c.in_ok-draft.ensures.once),
    )

pub returns-clause-given : goal.returns-clause-given
returns-clause-given c =
    let rows = c.args.rows.now in
    let drawn = c.in_ok-draft.ensures.drawn in
    let whole = subst IsWhole drawn (c.is_whole.ensures.0 c.if-not-is_whole.false) in
    sound_given rows (iff_false c.are_over_limit.ensures c.if-are_over_limit.false) (sound_from rows c.in_ok-draft.ensures.once whole) ∙ ap Ok (sym drawn)

pub returns-then-are_over_limit-clause-refused : goal.returns-then-are_over_limit-clause-refused
returns-then-are_over_limit-clause-refused c = λ _. over_limit_given c.args.rows.now (c.are_over_limit.ensures.0 c.if-are_over_limit.true)

pub returns-in_err-draft-clause-refused : goal.returns-in_err-draft-clause-refused
returns-in_err-draft-clause-refused c =
    twice_passed_on c.args.rows.now (iff_false c.are_over_limit.ensures c.if-are_over_limit.false) c.in_err-draft.field-0.0 c.in_err-draft.ensures.bad c.in_err-draft.ensures.limit c.from_residual.result c.from_residual.ensures.1

pub returns-then-not-is_whole-clause-refused : goal.returns-then-not-is_whole-clause-refused
returns-then-not-is_whole-clause-refused c _ =
    let drawn = c.in_ok-draft.ensures.drawn in
    bad_given c.args.rows.now (iff_false c.are_over_limit.ensures c.if-are_over_limit.false)
    (λ sound. iff_false c.is_whole.ensures c.if-not-is_whole.true (subst IsWhole (sym drawn) (whole_from c.args.rows.now sound)))
