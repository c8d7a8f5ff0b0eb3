use Rattle.std.proofs.Common.{◌≡◌, ℕ, List, Some}
use Rattle.std.specs.FinMap as map
use Rattle.std.specs.List.{AllByRecursion}
use Rattle.agv_header.specs.Name.{IsName}
use Rattle.agv_world_core.proofs.tables.by_name.ByName.names_law.Given as goal

-- where what is left has it, all has
abbrev pub invariant-loop-id : goal.invariant-loop-id
invariant-loop-id g l = AllByRecursion (λ (e : List ℕ × g.row.V.Denot). IsName e.0) l.id-iterator → (id : List ℕ) (row : g.row.V.Denot) → map.get l.self id ≡ Some row → IsName id
