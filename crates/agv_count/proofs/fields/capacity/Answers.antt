use Rattle.std.proofs.Common.{ap, sym, ◌∙◌}
use Rattle.std.specs.Result.{result_ok}
use Rattle.agv_count.proofs.FieldLemmas.{IsUtf8-capacity, as_text, capacity_parsed, chosen, no_text}
use Rattle.agv_count.proofs.fields.capacity.Goals as goal

pub returns-in_err-ok : goal.returns-in_err-ok
returns-in_err-ok c =
    let good = sym c.is_capacity.ensures ∙ c.if-not-is_capacity.false in
    let none = no_text _ c.args.field.now _ c.from_utf8.ensures.cases (sym c.ok.ensures.value ∙ c.in_err-ok.was) in
    absurd (none (IsUtf8-capacity _ good))

pub returns : goal.returns
returns c =
    let good = sym c.is_capacity.ensures ∙ c.if-not-is_capacity.false in
    let same = as_text _ c.args.field.now _ _ c.from_utf8.ensures.cases (sym c.ok.ensures.value ∙ c.in_ok-ok.was) in
    let parsed = rw same at c.parse.ensures.value.0 in
    chosen _ _ _ good (c.ok-2.ensures.value ∙ ap result_ok (capacity_parsed c.args.field.now _ parsed good))
