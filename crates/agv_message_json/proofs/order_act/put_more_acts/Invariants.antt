use Rattle.std.proofs.Common.{All, take}
use Rattle.agv_message_json.specs.OrderData.{act_data}
use Rattle.agv_message_json.specs.Appending.{SoFar}
use Rattle.agv_message_json.specs.Pieces.{more_values}
use Rattle.agv_message_json.specs.Readable.{IsReadable}
use Rattle.agv_message_json.proofs.order_act.put_more_acts.Given as goal

abbrev pub invariant-loop-act : goal.invariant-loop-act
invariant-loop-act l = SoFar l.initial.out l.out (more_values (act_data l.order) (take l.act-index l.acts)) × All (λ act. IsReadable (act_data l.order act)) (take l.act-index l.acts)
