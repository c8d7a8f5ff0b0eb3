use Rattle.agv_face_http.proofs.request.Methods.{method_is_token}
use Rattle.agv_face_http.proofs.request.heard.read_request.Goals as goal

pub with_method-requires : goal.with_method-requires
with_method-requires c =
    let has = c.in-Request.ensures in
    method_is_token _ c.in-Request.next.method.now has.2 has.3 has.4.method
