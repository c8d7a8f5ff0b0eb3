use Rattle.std.proofs.Common.{◌≡◌, ◌++◌, codes, string_bytes, take}
use Rattle.std.specs.List.{flat_map}
use Rattle.agv_count.specs.Reports.{line}
use Rattle.agv_count_exports.specs.Exports.{vehicle_line}
use Rattle.agv_count_exports.proofs.vehicles.vehicles_csv.Given as goal

abbrev pub invariant-loop-vehicle : goal.invariant-loop-vehicle
invariant-loop-vehicle l =
    string_bytes l.out
    ≡ line (codes "manufacturer,serialNumber,node,capacity,ready,paused,astray,headerId,pending,order,sent,confirmed,released,edges,seen,restEdge,restNode")
    ++ flat_map vehicle_line (take l.vehicle-index l.vehicles)
