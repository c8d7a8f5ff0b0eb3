use Rattle.std.proofs.Common.{ap, ◌∙◌}
use Rattle.std.specs.FinMap as map
use Rattle.std.proofs.lemmas.Map.Entries.{entries_from_clone}
use Rattle.agv_world_core.proofs.tables.by_name.ByName.copy.Goals as goal

pub returns : goal.returns
returns g c = ap map.from_entries (entries_from_clone _ _ (λ x y same. same) (λ x y same. g.met.V.Row.same x y same) _ _ c.in_ok-clone.ensures.cases) ∙ c.self.view_is
