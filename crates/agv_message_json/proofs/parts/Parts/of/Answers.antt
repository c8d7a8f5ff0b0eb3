-- Each member of the message is what one of the readers ensures.
use Rattle.std.proofs.Common.{ℕ, List, [], Option, unwrap_or, sym, ap, ◌∙◌}
use Rattle.agv_message_json.specs.State.{state_message}
use Rattle.agv_message_core.specs.declared.status.Status.{Status}
use Rattle.agv_message_json.proofs.parts.Parts.of.Goals as goal

pub returns-clause-message : goal.returns-clause-message
unfolding state_message
returns-clause-message c =
    let node_seqs = ap (λ (o : Option (List ℕ)). unwrap_or o []) (sym c.in_ok-node_seqs.ensures ∙ c.in-Some-2.is) in
    let actions = ap (λ (o : Option (List (List ℕ × Status))). unwrap_or o []) (sym c.in_ok-actions.ensures ∙ c.in-Some-3.is) in
    λ at i. record {
      header_id = sym c.in-Some.ensures.read.number i;
      at = at;
      manufacturer = sym c.in-Some.ensures.read.manufacturer i;
      serial = sym c.in-Some.ensures.read.serial i;
      order_id = sym c.in-Some-of.ensures.read.order i;
      update = sym c.in-Some-of.ensures.read.update i;
      last_node = sym c.in-Some-of.ensures.read.last_node i;
      last_seq = sym c.in-Some-of.ensures.read.last_seq i;
      node_seqs = node_seqs i;
      actions = actions i;
      ready = sym c.in-Some-of-2.ensures.read.ready i;
      paused = sym c.in-Some-of-2.ensures.read.paused i;
    }
