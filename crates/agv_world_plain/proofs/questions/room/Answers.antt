use Rattle.std.proofs.Common.{◌∙◌, ap, length, option_map, Some}
use Rattle.agv_layout.specs.declared.station.StationSite.{StationSite}
use Rattle.agv_stock.specs.Rooms.{room_left}
use Rattle.agv_world_core.specs.Questions.{room_at, loads_at, reserved}
use Rattle.agv_world_core.specs.Told.{world_of}
use Rattle.agv_world_plain.proofs.questions.room.Goals as goal

pub returns-in_err-site : goal.returns-in_err-site
unfolding room_at
returns-in_err-site c =
    let world = world_of c.args.world.now in
    c.from_residual.ensures
    ∙ ap (option_map (λ (site : StationSite). room_left site.capacity (length (loads_at world c.args.station)) (reserved world c.args.station))) c.in_err-site.ensures

pub returns : goal.returns
unfolding room_at
returns c =
    let world = world_of c.args.world.now in
    ap Some (c.room_left.ensures ∙ (λ i. room_left c.in_ok-site.site.capacity (c.load_count.ensures i) (c.reserved.ensures i)))
    ∙ ap (option_map (λ (site : StationSite). room_left site.capacity (length (loads_at world c.args.station)) (reserved world c.args.station))) c.in_ok-site.ensures
