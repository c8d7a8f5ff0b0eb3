use Rattle.std.proofs.Common.{◌∙◌, sym, ap, cond, option_map, Some}
use Rattle.std.specs.List.{find}
use Rattle.agv_world_core.specs.Told.{is_held_by}
use Rattle.agv_world_plain.proofs.Holding.{its_key, holder_of-told}
use Rattle.agv_world_plain.proofs.holders.holder.Goals as goal

pub returns-then-is_holder : goal.returns-then-is_holder
returns-then-is_holder c =
    let test = is_held_by c.args.world.now c.args.thing in
    ap (λ b. option_map its_key (cond b (Some (c.in-Some.key.now, c.in-Some.row.now)) (find test c.next.new.self))) (sym c.if-is_holder.true ∙ c.is_holder.ensures)
    ∙ ap (λ es. option_map its_key (find test es)) (sym c.in-Some.ensures.steps)
    ∙ ap (option_map its_key) c.loop-key.invariant
    ∙ sym (holder_of-told c.args.world.now c.args.thing)

pub returns : goal.returns
returns c =
    let test = is_held_by c.args.world.now c.args.thing in
    ap (λ es. option_map its_key (find test es)) (sym c.in-None.ensures.steps.0)
    ∙ ap (option_map its_key) c.loop-key.invariant
    ∙ sym (holder_of-told c.args.world.now c.args.thing)
