use Rattle.std.proofs.Common.{◌∙◌, ap, sym}
use Rattle.agv_layout.specs.LayoutOf.{is_among}
use Rattle.agv_layout.proofs.Among.{is_among-push}
use Rattle.agv_layout.proofs.Noted.{noted-before, found-before, noted-now, found-now}
use Rattle.agv_layout.proofs.distances.note.Goals as goal

pub returns-then-contains_key-clause-distances : goal.returns-then-contains_key-clause-distances
returns-then-contains_key-clause-distances c = λ id. noted-before c.args.distances.now c.args.start id c.args.hops (sym c.if-contains_key.ensures)

pub returns-then-contains_key-clause-found : goal.returns-then-contains_key-clause-found
returns-then-contains_key-clause-found c = λ id. found-before c.args.distances.now c.args.start id c.args.hops (is_among c.args.found.now.items id) (sym c.if-contains_key.ensures)

pub returns-clause-distances : goal.returns-clause-distances
returns-clause-distances c = λ id. c.in_ok-insert.ensures.updates.0 id ∙ noted-now c.args.distances.now c.args.start id c.args.hops (sym c.if-contains_key.ensures)

pub returns-clause-found : goal.returns-clause-found
returns-clause-found c = λ id. ap (λ l. is_among l id) c.in_ok-push.ensures.items ∙ is_among-push c.args.found.now.items c.args.start id ∙ found-now c.args.distances.now c.args.start id c.args.hops (is_among c.args.found.now.items id) (sym c.if-contains_key.ensures)
