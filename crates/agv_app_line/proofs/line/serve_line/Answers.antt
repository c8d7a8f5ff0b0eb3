use Rattle.std.proofs.Common.{arith, codes}
use Rattle.clap.specs.Words.{found_of}
use Rattle.agv_app_line.specs.CommandLine.{db, last_port, most_connections}
use Rattle.agv_app_line.proofs.Readings.{number_read, number_there, text_read, text_there}
use Rattle.agv_app_line.proofs.line.serve_line.Goals as goal

pub unreachable-requires : goal.unreachable-requires
unreachable-requires c = text_there (found_of c.args.found.now) db c.get_str.result c.get_str.ensures c.requires.values.0 c.in_default.is

pub unreachable-requires-in_default-get_one : goal.unreachable-requires-in_default-get_one
unreachable-requires-in_default-get_one c =
    number_there 16 last_port (omega arith) (found_of c.args.found.now) (codes "port") c.get_one.result c.get_one.ensures.value c.requires.values.1.0 c.in_default-get_one.is

pub unreachable-requires-in_default-get_one-2 : goal.unreachable-requires-in_default-get_one-2
unreachable-requires-in_default-get_one-2 c =
    number_there 32 most_connections (omega arith) (found_of c.args.found.now) (codes "connections") c.get_one-2.result c.get_one-2.ensures.value c.requires.values.1.1.0 c.in_default-get_one-2.is

pub returns-clause-values : goal.returns-clause-values
returns-clause-values c = (
  text_read (found_of c.args.found.now) db c.get_str.result c.get_str.ensures c.requires.values.0 c.in-Some.db c.in-Some.is,
  number_read 16 last_port (omega arith) (found_of c.args.found.now) (codes "port") c.get_one.result c.get_one.ensures.value c.requires.values.1.0 c.in-Some-get_one.port c.in-Some-get_one.is,
  number_read 32 most_connections (omega arith) (found_of c.args.found.now) (codes "connections") c.get_one-2.result c.get_one-2.ensures.value c.requires.values.1.1.0 c.in-Some-get_one-2.connections c.in-Some-get_one-2.is,
)
