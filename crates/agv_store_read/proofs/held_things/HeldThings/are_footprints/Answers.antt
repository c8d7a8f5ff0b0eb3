use Rattle.std.proofs.Common.{◌∙◌, ap, sym}
use Rattle.agv_world_core.proofs.LawfulInParts.{vehicles_of}
use Rattle.agv_store_read.specs.HeldThings.{are_holders}
use Rattle.agv_store_schema.specs.SchemaNumbers.{desk_seats}
use Rattle.agv_store_read.proofs.HeldFootprints.{each_ok, fits_just_so, never_fits}
use Rattle.agv_store_read.proofs.held_things.HeldThings.are_footprints.Goals as goal

pub returns-then-not-are_holders : goal.returns-then-not-are_holders
returns-then-not-are_holders c world keeps lawful =
    let vehicles = c.args.tables.now.vehicles in
    never_fits world (c.holds_are_footprints.ensures world (vehicles_of lawful).apart) c.tests_membership.ensures c.args.self.now.table c.args.self.now.pairs.items c.args.self.now.entries c.args.self.now.whole
    vehicles keeps.vehicles (sym (c.are_holders.ensures ∙ ap (are_holders vehicles) c.deref.ensures.value) ∙ c.if-not-are_holders.true)

pub returns : goal.returns
returns c =
    let vehicles = c.args.tables.now.vehicles in
    each_ok c.hold_their_own.result
    (λ b own world keeps lawful.
    fits_just_so world (c.holds_are_footprints.ensures world (vehicles_of lawful).apart) c.tests_membership.ensures c.args.self.now.table c.args.self.now.pairs.items c.args.self.now.entries c.args.self.now.whole
    vehicles keeps.vehicles _ (c.tables_tell_the_world.ensures c.args.tables.now world keeps (c.has_consistent_trips.ensures desk_seats world lawful))
    (sym (c.are_holders.ensures ∙ ap (are_holders vehicles) c.deref.ensures.value) ∙ c.if-not-are_holders.false) b own)
    c.hold_their_own.ensures
