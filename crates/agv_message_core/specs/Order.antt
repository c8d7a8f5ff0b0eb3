-- The actions of an order (VDA 5050 2.0, order; this project's profile).
use Rattle.std.specs.Prelude.{ℕ, List, ◌++◌, codes, decimal}
use Rattle.agv_message_core.specs.declared.order.ActKind.{ActKind}
use Rattle.agv_message_core.specs.declared.order.ActKind.TheVariants.{Pick, Drop}

-- the names of the predefined actions of VDA 5050
abbrev pub act_name : ActKind → List ℕ
act_name Pick = codes "pick"
act_name Drop = codes "drop"

-- the id of action n of the order O: `O.n`
abbrev pub act_id : List ℕ → ℕ → List ℕ
act_id order n = order ++ codes "." ++ decimal n
