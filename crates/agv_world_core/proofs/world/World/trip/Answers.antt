use Rattle.std.proofs.Common.{rules, ◌≡◌, ◌∙◌, sym, ap, subst, cond, is_some, true, None, IfOk}
use Rattle.agv_world_core.specs.Told.{open_trip}
use Rattle.agv_world_core.proofs.told_worlds.Telling.{trip_of-told}
use Rattle.agv_world_core.proofs.world.World.trip.Goals as goal

pub returns : goal.returns
returns c =
    let tables = c.args.self.now in
    let key = c.args.key.now in
    let known : is_some c.vehicle.result ≡ true = search rules in
    let trip = trip_of-told tables key c.vehicle.result c.vehicle.ensures ∙ ap (λ b. cond b (open_trip tables key) None) known in
    subst (λ t. IfOk c.open_trip.result (λ found. found ≡ t)) (sym trip) c.open_trip.ensures
