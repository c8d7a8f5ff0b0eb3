use Rattle.std.proofs.Common.{◌≡◌}
use Rattle.std.specs.FinMap as map
use Rattle.agv_world_core.specs.Told.{world_of}
use Rattle.agv_store_read.specs.HeldThings.{hold_their_own}
use Rattle.agv_store_read.proofs.held_things.HeldThings.hold_their_own.Given as goal

-- it is for the vehicles that are left to tell
abbrev pub invariant-loop-key : goal.invariant-loop-key
invariant-loop-key l =
    hold_their_own l.self.table l.self.pairs.items (world_of l.tables) l.key-iterator
    ≡ hold_their_own l.self.table l.self.pairs.items (world_of l.tables) (map.entries l.tables.vehicles)
