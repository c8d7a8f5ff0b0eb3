-- The rows of the router: the lines of the table, each with the tokens of its pattern.
use Rattle.std.specs.Prelude.{Bool, true, false, ◌&&◌, List, [], ◌∷◌, Result, Ok, Err, is_none}
use Rattle.matchit.specs.Rows.{RowsOf}
use Rattle.matchit.specs.Order.{placed}
use Rattle.matchit.specs.Route.{Scan, parse_route}
use Rattle.matchit.specs.Router.{RouteOf, nearest, route_from}
use Rattle.matchit.specs.declared.error.InsertError.{InsertError}
use Rattle.agv_face_http.specs.declared.routing.line.Line.{Line}
use Rattle.agv_face_http.specs.routing.Table.{Entry, entries}

-- the rows of a router
abbrev pub RouterRows : Type 0
RouterRows = RowsOf (RouteOf Line)

-- the rows and one more line, if its pattern is valid
abbrev pub with_scan : Result Scan InsertError → Line → RouterRows → RouterRows
with_scan (Ok s) line rows = placed (s.pattern, route_from s line) rows
with_scan (Err e) line rows = rows

-- the rows and one more line
unfoldable pub inserted : Entry → RouterRows → RouterRows
inserted e rows = with_scan (parse_route e.0) e.1 rows

-- the rows and these lines, inserted one after another
abbrev pub with_entries : RouterRows → List Entry → RouterRows
with_entries rows [] = rows
with_entries rows (e ∷ rest) = with_entries (inserted e rows) rest

-- the pattern is valid and conflicts with none of the rows
abbrev pub is_apart_from : RouterRows → Result Scan InsertError → Bool
is_apart_from rows (Ok s) = is_none (nearest s.pattern rows)
is_apart_from rows (Err e) = false

-- the pattern of the line is valid and conflicts with none of the rows
unfoldable pub is_apart : Entry → RouterRows → Bool
is_apart e rows = is_apart_from rows (parse_route e.0)

-- the pattern of each of these lines is valid and conflicts neither with the rows nor with the lines before it
abbrev pub are_apart : List Entry → RouterRows → Bool
are_apart [] rows = true
are_apart (e ∷ rest) rows = is_apart e rows && are_apart rest (inserted e rows)

-- the rows of the router with all lines
unfoldable pub router_rows : RouterRows
router_rows = with_entries [] entries
