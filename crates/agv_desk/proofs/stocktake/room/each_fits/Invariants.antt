use Rattle.std.proofs.Common.{◌≡◌, drop, unwrap_or}
use Rattle.std.specs.FinMap as map
use Rattle.std.specs.List.{list_all}
use Rattle.agv_world_core.specs.Asks.{Answers}
use Rattle.agv_world_core.specs.Questions.{reserved}
use Rattle.agv_desk.specs.CountParts.{has_room_for}
use Rattle.agv_desk.proofs.stocktake.room.each_fits.Given as goal

abbrev pub invariant-loop-station : goal.invariant-loop-station
invariant-loop-station g l =
    let facts = g.F.Floor.facts in
    let world = facts.world l.initial.floor in
    Answers facts l.initial.floor l.floor (list_all (λ station. has_room_for (unwrap_or (map.get l.counts station.0) 0) (reserved world station.0) station.1) (drop l.station-index l.stations) ≡ list_all (λ station. has_room_for (unwrap_or (map.get l.counts station.0) 0) (reserved world station.0) station.1) l.stations)
