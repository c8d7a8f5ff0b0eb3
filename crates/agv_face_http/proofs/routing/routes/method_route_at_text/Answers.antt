use Rattle.std.proofs.Common.{◌∙◌, ap, sym, subst}
use Rattle.matchit.specs.Params.{walk}
use Rattle.matchit.specs.Seek.{first}
use Rattle.agv_face_http.specs.routing.Taken.{IsTaken}
use Rattle.agv_face_http.proofs.routing.RouterMatches.{found, missing}
use Rattle.agv_face_http.proofs.routing.routes.method_route_at_text.Goals as goal

pub returns-in-Ok : goal.returns-in-Ok
returns-in-Ok c =
    let e = sym (ap (λ r. first r c.args.path.now) c.requires.table) ∙ c.in-Ok.ensures.found in
    let f = found c.args.path.now _ c.requires.ascii e in
    let t = subst (λ z. IsTaken (walk c.in-Ok.found.params.pattern.now c.in-Ok.found.params.text.now z c.in-Ok.found.params.names.now 0 0) f.taken) (sym c.in-Ok.ensures.path) f.is_taken in
    c.method_route_by_line.ensures f.taken t ∙ sym f.served

pub returns-in-Err : goal.returns-in-Err
returns-in-Err c = sym (missing c.args.path.now c.requires.ascii (sym (ap (λ r. first r c.args.path.now) c.requires.table) ∙ c.in-Err.ensures.missing))
