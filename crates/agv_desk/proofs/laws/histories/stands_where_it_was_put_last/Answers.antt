use Rattle.agv_desk.proofs.histories.PlacesPut.{places_put, load_put}
use Rattle.agv_desk.proofs.laws.histories.stands_where_it_was_put_last.Goals as goal

pub returns-clause-all : goal.returns-clause-all
returns-clause-all c = places_put

pub returns-clause-each : goal.returns-clause-each
returns-clause-each c = load_put
