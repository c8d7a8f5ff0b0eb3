use Rattle.std.proofs.Common.{◌≡◌, ◌++◌, ◌∷◌, ◌+◌, [], sym, ap, subst, take, ◌∙◌}
use Rattle.std.proofs.lemmas.List.{take_more, take_all}
use Rattle.agv_desk.proofs.histories.LawfulLists.{typed_more}
use Rattle.agv_desk.specs.WellTyped.{AreWellTyped}
use Rattle.agv_desk.proofs.laws.histories.types_each_call.Goals as goal

pub loop-made-init : goal.loop-made-init
loop-made-init c = tt

pub loop-made-preserved : goal.loop-made-preserved
loop-made-preserved c =
    let calls = c.args.calls.now in
    let i = c.loop-made.made-index in
    let made = c.made-item.result in
    let more : take (i + 1) calls ≡ take i calls ++ made ∷ [] = take_more calls i made c.loop-made-test.true ∙ ap (λ x. take i calls ++ x ∷ []) (sym c.made-item.is) in
    subst AreWellTyped (sym more) (typed_more (take i calls) made c.loop-made.invariant c.ms-ms.ensures.range c.typing_law.ensures)

pub returns : goal.returns
returns c = subst AreWellTyped (take_all c.loop-made.made-index c.args.calls.now c.loop-made-test.false) c.loop-made.invariant
