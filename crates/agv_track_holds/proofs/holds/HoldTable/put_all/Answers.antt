use Rattle.std.proofs.Common.{◌++◌, ◌∷◌, [], sym, ap, take, ◌∙◌}
use Rattle.std.specs.FinMap as map
use Rattle.std.proofs.lemmas.List.{take_more}
use Rattle.agv_track_holds.specs.Holds.{Holds, claimed}
use Rattle.agv_track_holds.proofs.Claims.{claimed_more, others_same, on_err}
use Rattle.agv_track_holds.proofs.holds.HoldTable.put_all.Goals as goal

pub returns-in_err-give-clause-err : goal.returns-in_err-give-clause-err
returns-in_err-give-clause-err c =
    on_err _ (others_same c.args.self.now _ c.args.key.now c.loop-thing.thing-index c.args.things.now (c.in_err-give.ensures.err ∙ c.loop-thing.invariant))

pub loop-thing-preserved : goal.loop-thing-preserved
loop-thing-preserved c =
    let things = c.args.things.now in
    let key = c.args.key.now in
    let i = c.loop-thing.thing-index in
    let thing = c.thing-item.result in
    let more = take_more things i thing c.loop-thing-test.true ∙ ap (λ x. take i things ++ x ∷ []) (sym c.thing-item.is) in
    c.in_ok-give.ensures.ok.1
    ∙ ap (λ (table : Holds). map.insert table thing key) c.loop-thing.invariant
    ∙ sym (claimed_more c.args.self.now key (take i things) thing)
    ∙ ap (claimed c.args.self.now key) (sym more)
