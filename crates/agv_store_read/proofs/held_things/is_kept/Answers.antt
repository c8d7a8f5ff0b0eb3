use Rattle.std.proofs.Common.{◌||◌, not, sym, ap, ◌∙◌}
use Rattle.agv_track_holds.specs.Holds.{is_in}
use Rattle.agv_track_holds.proofs.Claims.{is_in-turned}
use Rattle.agv_store_read.proofs.held_things.is_kept.Goals as goal

pub returns-then-eq : goal.returns-then-eq
returns-then-eq c =
    c.contains.ensures.value ∙ is_in-turned c.args.pair.now.0 c.args.things.now
    ∙ ap (λ its. not its || is_in c.args.pair.now.0 c.args.things.now) (sym c.if-eq.true ∙ c.eq.ensures)
