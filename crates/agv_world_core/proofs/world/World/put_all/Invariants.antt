use Rattle.std.proofs.Common.{◌≡◌, drop}
use Rattle.agv_world_core.specs.Changes.{changed}
use Rattle.agv_world_core.specs.Kept.{Agrees}
use Rattle.agv_world_core.specs.Maps.{Maps}
use Rattle.agv_world_core.proofs.world.World.put_all.Given as goal

-- what was carried out, and what is left, make all
abbrev pub invariant-loop-written : goal.invariant-loop-written
invariant-loop-written l = (maps : Maps) → Agrees l.fn.self maps → (so_far : Maps) × Agrees l.self so_far × (changed (drop l.written-index l.changes) so_far ≡ changed l.changes maps)
