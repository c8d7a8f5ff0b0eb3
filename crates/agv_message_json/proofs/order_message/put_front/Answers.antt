use Rattle.std.proofs.Common.{refl}
use Rattle.agv_message_json.proofs.Appending.{first_refused, two_texts}
use Rattle.agv_message_json.proofs.order_message.put_front.Goals as goal

pub returns-in_err-put_bytes-clause-appended : goal.returns-in_err-put_bytes-clause-appended
returns-in_err-put_bytes-clause-appended c = first_refused _ _ _ _ _ _ _ c.from_residual.ensures.0 c.in_err-put_bytes.ensures refl

pub returns-clause-appended : goal.returns-clause-appended
returns-clause-appended c = two_texts _ _ _ _ _ _ _ _ c.in_ok-put_bytes.ensures c.put_edges.ensures.appended refl
