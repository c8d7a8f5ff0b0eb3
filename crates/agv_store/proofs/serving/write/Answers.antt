use Rattle.std.proofs.Common.{subst, sym, ◌∙◌}
use Rattle.agv_store_known.specs.Known.{Follows}
use Rattle.agv_store.proofs.Writing.{crash_written, consistent_refused, consistent_written, serves_written}
use Rattle.agv_store.proofs.serving.write.Goals as goal

pub invariant_of-floor : goal.invariant_of-floor
invariant_of-floor g c =
    consistent_refused g.S.Store c.a_database_tells_its_world.ensures c.floor.inside.conn c.write_changes-written.new.conn c.floor.inside.known c.floor.inside.failed c.floor.inside.in_doubt c.floor.invariant c.args.floor.now c.floor.view_is c.args.at c.args.call.now c.args.decision c.requires.knows c.requires.decides
    c.as_slice.result.now c.as_slice.ensures c.write_changes-written.result (record { made = c.write_changes-written.ensures.made; worlds = c.changes_make_the_next_world.ensures; all_committed = c.write_changes-written.ensures.all_committed; opened = c.write_changes-written.ensures.«open»; was_open = c.write_changes-written.ensures.was_open; undone = c.write_changes-written.ensures.undone; crash = c.write_changes-written.ensures.crash; idle = c.write_changes-written.ensures.idle })
    c.in_err-raise.field-0.0 (sym c.raise.ensures.is ∙ c.in_err-raise.was) c.raise.new.failed c.raise.new.in_doubt
    c.raise.ensures.failed c.raise.ensures.in_doubt

pub returns-in_err-raise-clause-crash : goal.returns-in_err-raise-clause-crash
returns-in_err-raise-clause-crash g c =
    crash_written g.S.Store c.a_database_tells_its_world.ensures c.floor.inside.conn c.write_changes-written.new.conn c.floor.inside.known c.floor.inside.failed c.floor.inside.in_doubt c.floor.invariant c.args.floor.now c.floor.view_is c.args.at c.args.call.now c.args.decision c.requires.knows c.requires.decides
    c.as_slice.result.now c.as_slice.ensures c.write_changes-written.result (record { made = c.write_changes-written.ensures.made; worlds = c.changes_make_the_next_world.ensures; all_committed = c.write_changes-written.ensures.all_committed; opened = c.write_changes-written.ensures.«open»; was_open = c.write_changes-written.ensures.was_open; undone = c.write_changes-written.ensures.undone; crash = c.write_changes-written.ensures.crash; idle = c.write_changes-written.ensures.idle })

pub invariant_of-floor-2 : goal.invariant_of-floor-2
invariant_of-floor-2 g c =
    consistent_written g.S.Store c.a_database_tells_its_world.ensures c.floor.inside.conn c.write_changes-written.new.conn c.floor.inside.known c.floor.inside.failed c.floor.inside.in_doubt c.floor.invariant c.args.floor.now c.floor.view_is c.args.at c.args.call.now c.args.decision c.requires.knows c.requires.decides
    c.as_slice.result.now c.as_slice.ensures c.write_changes-written.result (record { made = c.write_changes-written.ensures.made; worlds = c.changes_make_the_next_world.ensures; all_committed = c.write_changes-written.ensures.all_committed; opened = c.write_changes-written.ensures.«open»; was_open = c.write_changes-written.ensures.was_open; undone = c.write_changes-written.ensures.undone; crash = c.write_changes-written.ensures.crash; idle = c.write_changes-written.ensures.idle })
    c.counts_follow.ensures c.adds_below_the_limit.ensures c.follow.new.self c.counted_by-more.result c.counted_by-more.ensures
    (subst (λ cs. Follows c.counted_by-more.result cs c.floor.inside.known c.follow.new.self) (c.as_slice-2.ensures ∙ sym c.as_slice.ensures) c.follow.ensures) c.raise.new.failed c.raise.new.in_doubt
    (sym c.raise.ensures.is ∙ c.in_ok-raise.was)

pub returns-clause-serves : goal.returns-clause-serves
returns-clause-serves g c =
    serves_written g.S.Store c.a_database_tells_its_world.ensures c.floor.inside.conn c.write_changes-written.new.conn c.floor.inside.known c.floor.inside.failed c.floor.inside.in_doubt c.floor.invariant c.args.floor.now c.floor.view_is c.args.at c.args.call.now c.args.decision c.requires.knows c.requires.decides
    c.as_slice.result.now c.as_slice.ensures c.write_changes-written.result (record { made = c.write_changes-written.ensures.made; worlds = c.changes_make_the_next_world.ensures; all_committed = c.write_changes-written.ensures.all_committed; opened = c.write_changes-written.ensures.«open»; was_open = c.write_changes-written.ensures.was_open; undone = c.write_changes-written.ensures.undone; crash = c.write_changes-written.ensures.crash; idle = c.write_changes-written.ensures.idle })
    (sym c.raise.ensures.is ∙ c.in_ok-raise.was)

pub returns-clause-crash : goal.returns-clause-crash
returns-clause-crash g c =
    crash_written g.S.Store c.a_database_tells_its_world.ensures c.floor.inside.conn c.write_changes-written.new.conn c.floor.inside.known c.floor.inside.failed c.floor.inside.in_doubt c.floor.invariant c.args.floor.now c.floor.view_is c.args.at c.args.call.now c.args.decision c.requires.knows c.requires.decides
    c.as_slice.result.now c.as_slice.ensures c.write_changes-written.result (record { made = c.write_changes-written.ensures.made; worlds = c.changes_make_the_next_world.ensures; all_committed = c.write_changes-written.ensures.all_committed; opened = c.write_changes-written.ensures.«open»; was_open = c.write_changes-written.ensures.was_open; undone = c.write_changes-written.ensures.undone; crash = c.write_changes-written.ensures.crash; idle = c.write_changes-written.ensures.idle })
