-- No two vehicles give rows of one key to a table: not of themselves, nor of trips and their edges where an order has one trip at most.
use Rattle.std.proofs.Common.{sym, ◌∙◌}
use Rattle.agv_header.specs.Key.{key_cmp}
use Rattle.agv_header.specs.KeyOrder.{key_cmp-IsAntisymmetric}
use Rattle.agv_header.specs.Name.{name_cmp}
use Rattle.agv_world_core.specs.ConsistentTrips.{HasOneTripAnOrder}
use Rattle.agv_world_core.specs.Keys.{leg_cmp}
use Rattle.agv_world_core.specs.Maps.{vehicle_rows, trip_rows, leg_rows}
use Rattle.agv_world_core.specs.Worlds.{World}
use Rattle.agv_world_core.proofs.world_rows.RowKeys.{one_key, trip_at, leg_of}
use Rattle.agv_world_core.proofs.world_rows.Spreads.{IsApart}

pub vehicles_apart : (world : World) → IsApart key_cmp vehicle_rows world.vehicles
vehicles_apart world k l x z q y w g h f e = sym (one_key key_cmp-IsAntisymmetric q k x.row y f).0 ∙ (one_key key_cmp-IsAntisymmetric q l z.row w e).0

pub trips_apart : (world : World) → HasOneTripAnOrder world → IsApart name_cmp trip_rows world.vehicles
trips_apart world once k l x z q y w g h f e =
    let a = trip_at k x.trip q y f in
    let b = trip_at l z.trip q w e in
    once k l a.0 b.0 (x, g, a.1) (z, h, b.1) (sym a.2 ∙ b.2)

pub legs_apart : (world : World) → HasOneTripAnOrder world → IsApart leg_cmp leg_rows world.vehicles
legs_apart world once k l x z q y w g h f e =
    let a = leg_of x.trip q y f in
    let b = leg_of z.trip q w e in
    once k l a.0 b.0 (x, g, a.1) (z, h, b.1) (sym a.2 ∙ b.2)
