use Rattle.std.proofs.Common.{◌≡◌, true}
use Rattle.std.specs.FinSet as set
use Rattle.std.specs.List.{AllByRecursion}
use Rattle.agv_header.specs.Name.{IsName}
use Rattle.agv_world_core.specs.declared.key.UseKey.{UseKey}
use Rattle.agv_world_core.proofs.tables.used_names.UsedNames.names_law.Given as goal

-- where what is left has it, all has
abbrev pub invariant-loop-key : goal.invariant-loop-key
invariant-loop-key l = AllByRecursion (λ (key : UseKey). IsName key.name) l.key-iterator → (key : UseKey) → set.contains l.self key ≡ true → IsName key.name
