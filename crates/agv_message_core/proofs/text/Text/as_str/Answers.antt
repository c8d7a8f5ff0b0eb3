use Rattle.agv_message_core.proofs.text.Text.as_str.Goals as goal

pub returns : goal.returns
returns c = cc
