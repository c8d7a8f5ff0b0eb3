use Rattle.std.proofs.Common.{◌≡◌, ◌∷◌, []}
use Rattle.agv_message_json.specs.OrderData.{edge_data}
use Rattle.agv_message_json.proofs.Appending.{three_texts, second_refused}
use Rattle.agv_message_json.proofs.Texts.{values_text}
use Rattle.agv_message_json.proofs.Readings.{all-readable, anyway, none-readable}
use Rattle.agv_message_json.proofs.order_edge.put_edges.Goals as goal

pub returns-in_err-put_more_edges-in-Some-clause-appended : goal.returns-in_err-put_more_edges-in-Some-clause-appended
returns-in_err-put_more_edges-in-Some-clause-appended c =
    let is : c.args.edges.now ≡ c.in-Some.first.now ∷ c.in-Some.more.now = c.in-Some.ensures.cases.0 in
    second_refused _ _ _ _ _ _ _ _ (93 ∷ []) _ c.from_residual-in_err-put_more_edges-in-Some.ensures.0 c.in_ok-put_edge-in-Some.ensures.appended c.in_err-put_more_edges-in-Some.ensures.appended (values_text edge_data _ _ _ is)

pub returns-in_ok-put_more_edges-in-Some-clause-appended : goal.returns-in_ok-put_more_edges-in-Some-clause-appended
returns-in_ok-put_more_edges-in-Some-clause-appended c =
    let is : c.args.edges.now ≡ c.in-Some.first.now ∷ c.in-Some.more.now = c.in-Some.ensures.cases.0 in
    three_texts _ _ _ _ _ _ _ _ _ _ _ c.in_ok-put_edge-in-Some.ensures.appended c.in_ok-put_more_edges-in-Some.ensures.appended c.put_bytes-in-Some.ensures (values_text edge_data _ _ _ is)

pub returns-in-None-clause-readable : goal.returns-in-None-clause-readable
returns-in-None-clause-readable c = anyway _ (none-readable edge_data c.args.edges.now c.in-None.ensures.cases)

pub returns-in_ok-put_more_edges-in-Some-clause-readable : goal.returns-in_ok-put_more_edges-in-Some-clause-readable
returns-in_ok-put_more_edges-in-Some-clause-readable c =
    let is : c.args.edges.now ≡ c.in-Some.first.now ∷ c.in-Some.more.now = c.in-Some.ensures.cases.0 in
    anyway _ (all-readable edge_data c.in-Some.first.now c.in-Some.more.now c.args.edges.now is c.in_ok-put_edge-in-Some.ensures.readable c.in_ok-put_more_edges-in-Some.ensures.readable)
