use Rattle.agv_store_ask.proofs.AskedShown.{shown_asked}
use Rattle.agv_store_ask.proofs.query_laws.a_query_shows_its_rows.Goals as goal

pub returns : goal.returns
returns c = shown_asked
