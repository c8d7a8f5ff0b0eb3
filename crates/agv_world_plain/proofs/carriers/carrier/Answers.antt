use Rattle.std.proofs.Common.{◌∙◌, sym, ap}
use Rattle.agv_world_plain.proofs.Carrying.{found_first, carrier_among, carrier_of-told}
use Rattle.agv_world_plain.proofs.carriers.carrier.Goals as goal

pub returns-in-Some-order_dropping : goal.returns-in-Some-order_dropping
returns-in-Some-order_dropping c =
    let tables = c.args.world.now in
    let job = c.args.job in
    sym (found_first tables job (c.in-Some.key.now, c.in-Some.field-0-1.now) c.next.new.self c.in-Some-order_dropping.order (sym c.order_dropping.ensures ∙ c.in-Some-order_dropping.is))
    ∙ ap (carrier_among tables job) (sym c.in-Some.ensures.steps)
    ∙ c.loop-key.invariant
    ∙ sym (carrier_of-told tables job)

pub returns : goal.returns
returns c =
    let tables = c.args.world.now in
    let job = c.args.job in
    ap (carrier_among tables job) (sym c.in-None.ensures.steps.0)
    ∙ c.loop-key.invariant
    ∙ sym (carrier_of-told tables job)
