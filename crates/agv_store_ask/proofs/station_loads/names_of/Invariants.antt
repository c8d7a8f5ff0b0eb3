use Rattle.std.proofs.Common.{◌≡◌, ◌++◌}
use Rattle.std.specs.FinMap as map
use Rattle.std.specs.Map.{keys_of}
use Rattle.agv_store_ask.proofs.station_loads.names_of.Given as goal

-- the names so far, and those of what is left, are all
abbrev pub invariant-loop-id : goal.invariant-loop-id
invariant-loop-id l = l.names.items ++ keys_of l.id-iterator ≡ keys_of (map.entries l.table)
