use Rattle.std.proofs.Common.{◌∙◌, ◌++◌, sym, ap, List, ℕ, append-nil}
use Rattle.std.specs.List.{filter}
use Rattle.agv_stock.specs.declared.place.Place.{Place}
use Rattle.agv_world_lawful.specs.LoadTests.{is_on_vehicle}
use Rattle.agv_world_lawful.proofs.room.loads_on_vehicles.Goals as goal

pub returns : goal.returns
returns c =
    sym (append-nil _)
    ∙ ap (λ es. c.loop-load.loads.items ++ filter (λ (load : List ℕ × Place). is_on_vehicle load.1) es) (sym c.in-None.ensures.steps.0)
    ∙ c.loop-load.invariant
