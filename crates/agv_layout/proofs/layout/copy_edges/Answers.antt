use Rattle.std.proofs.lemmas.Map.Entries.{entries_from_clone}
use Rattle.agv_layout.proofs.layout.copy_edges.Goals as goal

pub returns : goal.returns
returns c = entries_from_clone _ _ (λ x y same. same) (λ x y same. same) _ _ c.in_ok-copy.ensures.cases
