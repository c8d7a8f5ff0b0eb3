use Rattle.agv_store_ask.proofs.KeysShown.{all_shown}
use Rattle.agv_store_ask.proofs.query_laws.a_test_shows_its_rows.Goals as goal

pub returns : goal.returns
returns c = all_shown
