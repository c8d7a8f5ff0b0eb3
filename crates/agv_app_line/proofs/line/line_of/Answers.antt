use Rattle.std.proofs.Common.{◌∙◌, ap, sym, map, Some}
use Rattle.clap.specs.Words.{found_of, rows_of}
use Rattle.agv_app_line.proofs.Lines.{line_parsed}
use Rattle.agv_app_line.proofs.line.line_of.Goals as goal

pub named_line-requires : goal.named_line-requires
named_line-requires c =
    let command = c.in_ok-desk_command.ensures in
    let parsed = line_parsed command.0 _ command.2 (map (λ word. word.now) c.args.words.now) c.in-Ok.matches c.in-Some.name.now (rows_of (found_of c.in-Some.found.now))
    c.in-Ok.ensures.kinds c.in-Ok.ensures.matches c.in-Some.ensures.name c.in-Some.ensures.rows in
    record { named = (command.0, command.1, parsed.values) }

pub returns-clause-line : goal.returns-clause-line
returns-clause-line c =
    let command = c.in_ok-desk_command.ensures in
    let rows = rows_of (found_of c.in-Some.found.now) in
    let parsed = line_parsed command.0 _ command.2 (map (λ word. word.now) c.args.words.now) c.in-Ok.matches c.in-Some.name.now rows
    c.in-Ok.ensures.kinds c.in-Ok.ensures.matches c.in-Some.ensures.name c.in-Some.ensures.rows in
    (command.0, command.1, parsed.none, (rows, parsed.found ∙ ap (λ n. Some (n, rows)) (sym c.named_line.ensures.name), c.named_line.ensures.values))
