use Rattle.std.proofs.Common.{sym, ap, ◌∙◌}
use Rattle.serde_json.specs.View.{view}
use Rattle.serde_json.specs.Written.{has_float}
use Rattle.serde_json.proofs.Views.{view-Array}
use Rattle.agv_message_json.proofs.body.+fraction.Goals as goal

pub has_fraction-returns-in-Array : goal.has_fraction-returns-in-Array
has_fraction-returns-in-Array t c =
    c.items_have_fraction.ensures ∙ sym (ap has_float (ap view c.in-Array.is ∙ view-Array _))
