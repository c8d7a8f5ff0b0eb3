use Rattle.std.proofs.Common.{◌++◌, ◌∷◌, [], sym, ap, take, ◌∙◌}
use Rattle.std.proofs.lemmas.List.{take_more}
use Rattle.agv_track_holds.specs.Holds.{shed_from}
use Rattle.agv_track_holds.proofs.Sheds.{shed_none, shed_this, shed_not}
use Rattle.agv_track_holds.proofs.holds.HoldTable.shed.Goals as goal
use Rattle.agv_track_holds.proofs.holds.HoldTable.shed.Goals.{then-gives_up, else-gives_up}

pub loop-thing-init : goal.loop-thing-init
loop-thing-init c = sym (shed_none c.args.self.now c.args.key c.args.new.now)

pub loop-thing-preserved : goal.loop-thing-preserved
loop-thing-preserved c =
    let table = c.args.self.now in
    let key = c.args.key in
    let old = c.args.old.now in
    let new = c.args.new.now in
    let i = c.loop-thing.thing-index in
    let thing = c.thing-item.result in
    let more = take_more old i thing c.loop-thing-test.true ∙ ap (λ x. take i old ++ x ∷ []) (sym c.thing-item.is) in
    let goes = sym c.gives_up.ensures in
    elim c.if-gives_up.branch [
      | then-gives_up w ↦ w.self-is ∙ w.free.ensures ∙ shed_this table c.loop-thing.self key (take i old) new thing c.loop-thing.invariant (goes ∙ w.if-gives_up.true) ∙ ap (λ xs. shed_from table key xs new) (sym more)
      | else-gives_up w ↦ w.self-is ∙ shed_not table c.loop-thing.self key (take i old) new thing c.loop-thing.invariant (goes ∙ w.if-gives_up.false) ∙ ap (λ xs. shed_from table key xs new) (sym more)
    ]
