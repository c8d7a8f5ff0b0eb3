use Rattle.std.proofs.Common.{sym, subst, rules}
use Rattle.std.specs.Str.{IsUtf8}
use Rattle.agv_header.specs.Name.{IsUtf8-name}
use Rattle.agv_header.proofs.name.Name.as_str.Goals as goal

pub unreachable-requires : goal.unreachable-requires
unreachable-requires c =
    c.in-Err.ensures.cases.0 (subst IsUtf8 (sym c.as_bytes.ensures.bytes) (IsUtf8-name _ c.as_bytes.ensures.name))

pub returns-clause-text : goal.returns-clause-text
returns-clause-text c = search rules
