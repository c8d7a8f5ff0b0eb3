use Rattle.std.proofs.Common.{ap, ◌∙◌}
use Rattle.std.specs.FinMap as map
use Rattle.agv_track_holds.specs.Holds.{Holds}
use Rattle.agv_track_holds.proofs.Tables.{remove-shown}
use Rattle.agv_track_holds.proofs.holds.HoldTable.free.Goals as goal

pub returns : goal.returns
returns c =
    remove-shown _ _ _ c.remove.ensures.updates.0 ∙ ap (λ (table : Holds). map.remove table c.args.thing.now) c.self.view_is
