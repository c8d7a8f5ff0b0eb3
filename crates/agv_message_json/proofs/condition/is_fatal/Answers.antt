use Rattle.agv_message_json.proofs.condition.is_fatal.Goals as goal

pub returns : goal.returns
returns c = c.eq.ensures
