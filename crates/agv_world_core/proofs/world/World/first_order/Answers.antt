use Rattle.std.proofs.Common.{◌∙◌, sym, ap, cond, Some}
use Rattle.std.specs.List.{find}
use Rattle.agv_world_core.specs.Told.{names_vehicle, order_in}
use Rattle.agv_world_core.proofs.world.World.first_order.Goals as goal

pub returns-then-eq : goal.returns-then-eq
returns-then-eq c =
    let test = names_vehicle c.args.key in
    ap (λ b. order_in (cond b (Some (c.in-Some.order.now, c.in-Some.row.now)) (find test c.next.new.self))) c.if-eq.ensures
    ∙ ap (λ es. order_in (find test es)) (sym c.in-Some.ensures.steps)
    ∙ ap order_in c.loop-order.invariant

pub returns : goal.returns
returns c = ap (λ es. order_in (find (names_vehicle c.args.key) es)) (sym c.in-None.ensures.steps.0) ∙ ap order_in c.loop-order.invariant
