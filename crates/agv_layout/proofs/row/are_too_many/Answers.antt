-- With no more nodes and edges than there may be, the stations decide.
use Rattle.std.proofs.Common.{◌<◌, inr, ⊎_elim, arith}
use Rattle.std.proofs.lemmas.Bool.Decides.{Decides-like, Decides-ltb}
use Rattle.agv_layout.proofs.row.are_too_many.Goals as goal

pub returns-else-edges-gt-MAX_LAYOUT_EDGES : goal.returns-else-edges-gt-MAX_LAYOUT_EDGES
returns-else-edges-gt-MAX_LAYOUT_EDGES c =
    Decides-like _ (λ stations. inr (inr stations))
    (⊎_elim
    (λ (nodes : 500 < c.args.nodes). absurd (omega arith))
    (⊎_elim (λ (edges : 1500 < c.args.edges). absurd (omega arith)) (λ stations. stations)))
    (Decides-ltb 500 c.args.stations)
