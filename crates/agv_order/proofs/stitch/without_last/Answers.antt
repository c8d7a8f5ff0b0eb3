use Rattle.std.proofs.Common.{◌≡◌, vec_len, arith}
use Rattle.agv_order.proofs.Stitching.{front_popped}
use Rattle.agv_order.proofs.stitch.without_last.Goals as goal

pub returns : goal.returns
returns c =
    let rest = c.pop.new.self in
    front_popped c.args.nodes.items rest.items c.pop.result c.pop.ensures.items
    (λ none. let empty : (vec_len c.args.nodes ≡ 0) × (vec_len rest ≡ 0) = rw none at c.pop.ensures.cases in omega (arith, empty.1, rest.ok.0))
