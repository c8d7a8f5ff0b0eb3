use Rattle.std.proofs.Common.{sym}
use Rattle.std.proofs.lemmas.Str.{IsUtf8-from_ascii}
use Rattle.agv_face_http.proofs.routing.RouterMatches.{strange}
use Rattle.agv_face_http.proofs.routing.routes.method_route_at_path.Goals as goal

pub returns-then-not-is_ascii : goal.returns-then-not-is_ascii
returns-then-not-is_ascii c = sym (strange _ c.if-not-is_ascii.ensures.cases)

pub unreachable-requires : goal.unreachable-requires
unreachable-requires c = c.in-Err.ensures.cases.0 (IsUtf8-from_ascii _ c.if-not-is_ascii.ensures.cases)
