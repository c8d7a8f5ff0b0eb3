-- The orders of the keys of legs and of used names.
use Rattle.std.specs.Prelude.{ℕ}
use Rattle.std.specs.Ordering.{nat_cmp, ordering_then}
use Rattle.std.specs.declared.cmp.Ordering.{Ordering}
use Rattle.agv_header.specs.Name.{name_cmp}
use Rattle.agv_world_core.specs.declared.key.LegKey.{LegKey}
use Rattle.agv_world_core.specs.declared.key.UseKey.{UseKey}
use Rattle.agv_world_core.specs.declared.key.UseKind.{UseKind}
use Rattle.agv_world_core.specs.declared.key.UseKind.TheVariants.{Order, Reference}

-- the order of the keys of legs: by the order's name, then by the index on the way
abbrev pub leg_cmp : LegKey → LegKey → Ordering
leg_cmp a b = ordering_then (name_cmp a.order b.order) (nat_cmp a.k b.k)

-- the rank of a kind: orders come before references
abbrev pub use_rank : UseKind → ℕ
use_rank Order = 0
use_rank Reference = 1

-- the order of used names: by the kind, then by the name
abbrev pub use_cmp : UseKey → UseKey → Ordering
use_cmp a b = ordering_then (nat_cmp (use_rank a.kind) (use_rank b.kind)) (name_cmp a.name b.name)
