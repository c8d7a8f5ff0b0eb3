use Rattle.agv_message_core.proofs.text.Text.copy_of.Goals as goal

pub returns : goal.returns
returns c = c.in_ok-from_str.ensures.ok
