use Rattle.std.proofs.Common.{sym, ap, ◌∙◌}
use Rattle.std.specs.FinMap as map
use Rattle.agv_track_holds.specs.Holds.{Holds}
use Rattle.agv_track_holds.proofs.Tables.{get-shown}
use Rattle.agv_track_holds.proofs.holds.HoldTable.holder.Goals as goal

pub returns : goal.returns
returns c =
    c.copied.ensures ∙ c.get.ensures.value ∙ sym (get-shown _ _) ∙ ap (λ (table : Holds). map.get table c.args.thing.now) c.self.view_is
