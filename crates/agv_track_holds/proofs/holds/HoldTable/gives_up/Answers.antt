use Rattle.std.proofs.Common.{not, ◌&&◌, sym, ap, ◌∙◌}
use Rattle.agv_track_holds.specs.Holds.{is_in}
use Rattle.agv_track_holds.proofs.Claims.{is_in-turned}
use Rattle.agv_track_holds.proofs.holds.HoldTable.gives_up.Goals as goal

pub returns-then-is_own : goal.returns-then-is_own
returns-then-is_own c =
    ap not (c.contains.ensures.value ∙ is_in-turned c.args.thing.now c.args.new.now)
    ∙ ap (λ own. own && not (is_in c.args.thing.now c.args.new.now)) (sym c.if-is_own.true ∙ c.is_own.ensures)
