use Rattle.agv_message_json.proofs.read.is_served.Goals as goal

pub returns : goal.returns
returns c = rw c.as_bytes.ensures.value at c.starts_with.ensures.value
