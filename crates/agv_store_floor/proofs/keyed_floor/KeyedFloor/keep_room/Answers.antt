use Rattle.std.proofs.Common.{◌≡◌, Some, subst, sym}
use Rattle.agv_header.specs.Name.{name_cmp}
use Rattle.agv_world_core.specs.Questions.{room_at}
use Rattle.agv_world_core.specs.Maps.{maps_of}
use Rattle.agv_world_core.proofs.lists.Orders.{names_apart}
use Rattle.agv_store_schema.specs.Connections.{IsClean, IsOpen}
use Rattle.agv_store_known.specs.KeptRooms.{IsRoomLeft}
use Rattle.agv_store_known.proofs.KeptMaps.{one_more_entry, same_entries}
use Rattle.agv_store_known.proofs.KeptRooms.{counted_left}
use Rattle.agv_store_known.proofs.Knowing.{with_rooms}
use Rattle.agv_store_floor.specs.Floors.{Keyed, world_at}
use Rattle.agv_store_floor.proofs.Asked.{known_so}
use Rattle.agv_store_floor.proofs.keyed_floor.KeyedFloor.keep_room.Goals as goal

pub invariant_of-self : goal.invariant_of-self
invariant_of-self g c =
    known_so g.S.Store c.self.inside.conn c.self.inside.known _ c.self.inside.failed c.self.inside.in_doubt c.self.invariant
    (λ clean still is. with_rooms (same_entries name_cmp names_apart (IsRoomLeft (maps_of (world_at g.S.Store c.self.inside.conn))) c.self.inside.known.rooms c.insert.new.self c.in_err-insert.ensures.err is.fits) is)

pub invariant_of-self-2 : goal.invariant_of-self-2
invariant_of-self-2 g c =
    let counted = subst (λ (desk : Keyed g.row.S.Denot). IsClean g.S.Store desk.held → IsOpen g.S.Store desk.held → Some c.args.room ≡ room_at (world_at g.S.Store desk.held) c.args.station) (sym c.self.view_is) c.requires.counted in
    known_so g.S.Store c.self.inside.conn c.self.inside.known _ c.self.inside.failed c.self.inside.in_doubt c.self.invariant
    (λ clean still is. with_rooms (one_more_entry name_cmp names_apart (IsRoomLeft (maps_of (world_at g.S.Store c.self.inside.conn))) c.self.inside.known.rooms c.insert.new.self c.args.station c.args.room c.in_ok-insert.ensures.updates.0
    (counted_left (world_at g.S.Store c.self.inside.conn) c.args.station c.args.room c.requires.some (counted clean still)) is.fits) is)
