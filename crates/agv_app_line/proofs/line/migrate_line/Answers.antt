use Rattle.clap.specs.Words.{found_of}
use Rattle.agv_app_line.specs.CommandLine.{db}
use Rattle.agv_app_line.proofs.Readings.{text_read, text_there}
use Rattle.agv_app_line.proofs.line.migrate_line.Goals as goal

pub unreachable-requires : goal.unreachable-requires
unreachable-requires c = text_there (found_of c.args.found.now) db c.get_str.result c.get_str.ensures c.requires.values.0 c.in_default.is

pub returns-clause-values : goal.returns-clause-values
returns-clause-values c = text_read (found_of c.args.found.now) db c.get_str.result c.get_str.ensures c.requires.values.0 c.in-Some.db c.in-Some.is
