use Rattle.std.proofs.Common.{sym, ap, ◌∙◌, Some, true≢false}
use Rattle.clap.specs.Words.{found_of, rows_of}
use Rattle.agv_app_line.specs.CommandLine.{db, report_kind}
use Rattle.agv_app_line.proofs.Readings.{kind_known, text_read, text_there}
use Rattle.agv_app_line.proofs.line.report_line.Goals as goal

pub unreachable-requires : goal.unreachable-requires
unreachable-requires c = text_there (found_of c.args.found.now) db c.get_str.result c.get_str.ensures c.requires.values.2.0 c.in_default.is

pub unreachable-requires-in_default-get_str : goal.unreachable-requires-in_default-get_str
unreachable-requires-in_default-get_str c =
    text_there (found_of c.args.found.now) (report_kind c.requires.values.0) c.get_str-2.result c.get_str-2.ensures c.requires.values.2.1.0 c.in_default-get_str.is

-- the word that stands by itself is the name of a report
pub unreachable-requires-in_default-kind_named : goal.unreachable-requires-in_default-kind_named
unreachable-requires-in_default-kind_named c =
    let kinds = c.requires.values.0 in
    let has = c.requires.values.2.1.0 in
    let read = text_read (found_of c.args.found.now) (report_kind kinds) c.get_str-2.result c.get_str-2.ensures has c.in-Some-get_str.word c.in-Some-get_str.is in
    let known = kind_known kinds c.requires.values.1 (rows_of (found_of c.args.found.now)) has c.in-Some-get_str.word.now read in
    true≢false (sym (c.in_default-kind_named.ensures.known known.0 known.1))

pub returns-clause-values : goal.returns-clause-values
returns-clause-values c = (
  text_read (found_of c.args.found.now) db c.get_str.result c.get_str.ensures c.requires.values.2.0 c.in-Some.db c.in-Some.is,
  text_read (found_of c.args.found.now) (report_kind c.requires.values.0) c.get_str-2.result c.get_str-2.ensures c.requires.values.2.1.0 c.in-Some-get_str.word c.in-Some-get_str.is
      ∙ ap (λ t. Some t) c.in-Some-kind_named.ensures.named,
)
