use Rattle.std.proofs.Common.{◌≡◌, true, map, drop}
use Rattle.agv_face_http.specs.routing.RouterRows.{are_apart, with_entries}
use Rattle.agv_face_http.specs.routing.Table.{entry}
use Rattle.agv_face_http.proofs.routing.table.add_all.Given as goal

abbrev pub invariant-loop-method : goal.invariant-loop-method
invariant-loop-method l =
    (are_apart (map (λ line. entry line.0 line.1.now line.2) (drop l.method-index l.lines)) l.router ≡ true)
    × (with_entries l.router (map (λ line. entry line.0 line.1.now line.2) (drop l.method-index l.lines)) ≡ with_entries l.fn.router (map (λ line. entry line.0 line.1.now line.2) l.lines))
