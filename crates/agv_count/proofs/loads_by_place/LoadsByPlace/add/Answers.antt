use Rattle.std.proofs.Common.{sym, ap, ◌++◌, ◌∙◌}
use Rattle.std.specs.Cmp.Lexicographic.{texts_ties}
use Rattle.agv_header.specs.Key.{key_cmp}
use Rattle.agv_header.specs.KeyOrder.{key_cmp-ties}
use Rattle.agv_header.specs.Name.{name_cmp}
use Rattle.agv_count.specs.LoadsByPlace.{loads_at, one_if}
use Rattle.agv_count.proofs.loads_by_place.LoadsByPlace.add.Goals as goal

pub returns-in_ok-put-in-Station-clause-stations : goal.returns-in_ok-put-in-Station-clause-stations
returns-in_ok-put-in-Station-clause-stations c = λ id.
    rw c.in-Station.is
    (c.in_ok-put-in-Station.ensures id ∙ ap (λ b. loads_at name_cmp c.args.self.now.stations id ++ one_if b c.args.load) (sym (texts_ties c.in-Station.id id)))

pub returns-in_ok-put-in-Vehicle-clause-vehicles : goal.returns-in_ok-put-in-Vehicle-clause-vehicles
returns-in_ok-put-in-Vehicle-clause-vehicles c = λ key.
    rw c.in-Vehicle.is
    (c.in_ok-put-in-Vehicle.ensures key ∙ ap (λ b. loads_at key_cmp c.args.self.now.vehicles key ++ one_if b c.args.load) (sym (key_cmp-ties c.in-Vehicle.key key)))
