use Rattle.std.proofs.Common.{◌++◌, ◌∷◌, [], None, cond, sym, ap, take, ◌∙◌}
use Rattle.std.specs.FinMap as map
use Rattle.std.proofs.lemmas.List.{take_more}
use Rattle.agv_track_holds.specs.Holds.{Holds, is_in}
use Rattle.agv_track_holds.proofs.Claims.{freed_more}
use Rattle.agv_track_holds.proofs.holds.HoldTable.free_all.Goals as goal

pub loop-thing-preserved : goal.loop-thing-preserved
loop-thing-preserved c q =
    let things = c.args.things.now in
    let i = c.loop-thing.thing-index in
    let thing = c.thing-item.result in
    let more = take_more things i thing c.loop-thing-test.true ∙ ap (λ x. take i things ++ x ∷ []) (sym c.thing-item.is) in
    ap (λ (table : Holds). map.get table q) c.free.ensures
    ∙ freed_more c.loop-thing.self c.args.self.now (take i things) thing c.loop-thing.invariant q
    ∙ ap (λ xs. cond (is_in q xs) None (map.get c.args.self.now q)) (sym more)
