use Rattle.std.proofs.Common.{option_and_then, ap, ◌∙◌}
use Rattle.agv_message_json.specs.State.{status_at}
use Rattle.agv_message_core.specs.Status.{status_of}
use Rattle.agv_message_json.proofs.lists.status.Goals as goal

pub returns : goal.returns
unfolding status_at
returns c = c.of.ensures ∙ ap (option_and_then status_of) c.in_ok-text.ensures

pub returns-in_err-text : goal.returns-in_err-text
unfolding status_at
returns-in_err-text c = c.from_residual.ensures ∙ ap (option_and_then status_of) c.in_err-text.ensures
