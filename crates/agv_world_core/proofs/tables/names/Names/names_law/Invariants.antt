use Rattle.std.proofs.Common.{◌≡◌, ℕ, List, true}
use Rattle.std.specs.FinSet as set
use Rattle.std.specs.List.{AllByRecursion}
use Rattle.agv_header.specs.Name.{IsName}
use Rattle.agv_world_core.proofs.tables.names.Names.names_law.Given as goal

-- where what is left has it, all has
abbrev pub invariant-loop-id : goal.invariant-loop-id
invariant-loop-id l = AllByRecursion (λ (id : List ℕ). IsName id) l.id-iterator → (id : List ℕ) → set.contains l.self id ≡ true → IsName id
