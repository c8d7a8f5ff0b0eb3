use Rattle.std.proofs.Common.{◌∙◌, ap}
use Rattle.std.specs.Prelude.{option_and_then}
use Rattle.agv_face_http.specs.routing.Table.{route_with, with_route}
use Rattle.agv_face_http.proofs.routing.routes.method_route_by_line.Goals as goal

pub returns : goal.returns
returns c = λ taken h.
    c.with_method.ensures
    ∙ ap (with_route c.args.line.method) (c.route_of_names.ensures ∙ ap (option_and_then (route_with c.args.line.kind)) (c.names_of.ensures taken h))
