use Rattle.std.proofs.Common.{◌∙◌, ◌++◌, sym, ap, List, ℕ, append-nil}
use Rattle.std.specs.List.{filter}
use Rattle.std.specs.Map.{keys_of}
use Rattle.agv_stock.specs.Rooms.{is_at}
use Rattle.agv_stock.specs.declared.place.Place.{Place}
use Rattle.agv_world_core.specs.Questions.{loads_at}
use Rattle.agv_world_plain.proofs.questions.loads_at.Goals as goal

pub returns : goal.returns
unfolding loads_at
returns c =
    c.from.ensures
    ∙ sym (append-nil _)
    ∙ ap (λ es. c.loop-load.loads.items ++ keys_of (filter (λ (load : List ℕ × Place). is_at c.args.station load.1) es)) (sym c.in-None.ensures.steps.0)
    ∙ c.loop-load.invariant
