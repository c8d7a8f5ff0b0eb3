use Rattle.std.proofs.Common.{◌≡◌, true, sym, subst}
use Rattle.agv_face_http.specs.routing.RouterRows.{RouterRows, are_apart, router_rows, with_entries}
use Rattle.agv_face_http.specs.routing.Table.{entries}
use Rattle.agv_face_http.proofs.routing.Inserting.{all_apart}
use Rattle.agv_face_http.proofs.routing.table.table_of_routes.Goals as goal

pub add_all-requires : goal.add_all-requires
add_all-requires c = subst (λ (rows : RouterRows). are_apart entries rows ≡ true) (sym c.new-router.ensures) all_apart

pub returns : goal.returns
unfolding router_rows
returns c = subst (λ (rows : RouterRows). c.add_all.new.router ≡ with_entries rows entries) c.new-router.ensures c.in_ok-add_all.ensures
