use Rattle.std.proofs.Common.{◌≡◌, ℕ, ◌++◌, Some, map, drop}
use Rattle.std.specs.List.{enumerate_from}
use Rattle.agv_layout.specs.declared.edge.Edge.{Edge}
use Rattle.agv_world_core.specs.VehicleChanges.{leg_writes}
use Rattle.agv_world_core.specs.declared.change.Change.TheVariants as row
use Rattle.agv_desk.proofs.vehicle_rows.push_legs.Given as goal

abbrev pub invariant-loop-k : goal.invariant-loop-k
invariant-loop-k l =
    let write = λ (numbered : ℕ × Edge). row.Leg (record { order = l.order; k = numbered.0 }) (Some numbered.1.id) in
    l.changes.items ++ map write (enumerate_from l.k (drop l.k l.edges)) ≡ l.initial.changes.items ++ leg_writes l.order l.edges
