use Rattle.std.proofs.Common.{arith, codes}
use Rattle.clap.specs.Words.{found_of}
use Rattle.agv_app_line.specs.CommandLine.{db, last_moment}
use Rattle.agv_app_line.proofs.Readings.{number_read, number_there, text_read, text_there}
use Rattle.agv_app_line.proofs.line.replay_line.Goals as goal

pub unreachable-requires : goal.unreachable-requires
unreachable-requires c = text_there (found_of c.args.found.now) db c.get_str.result c.get_str.ensures c.requires.values.0 c.in_default.is

pub unreachable-requires-in_default-get_one : goal.unreachable-requires-in_default-get_one
unreachable-requires-in_default-get_one c =
    number_there 64 last_moment (omega arith) (found_of c.args.found.now) (codes "at") c.get_one.result c.get_one.ensures.value c.requires.values.1.0 c.in_default-get_one.is

pub returns-clause-values : goal.returns-clause-values
returns-clause-values c = (
  text_read (found_of c.args.found.now) db c.get_str.result c.get_str.ensures c.requires.values.0 c.in-Some.db c.in-Some.is,
  number_read 64 last_moment (omega arith) (found_of c.args.found.now) (codes "at") c.get_one.result c.get_one.ensures.value c.requires.values.1.0 c.in-Some-get_one.at c.in-Some-get_one.is,
)
