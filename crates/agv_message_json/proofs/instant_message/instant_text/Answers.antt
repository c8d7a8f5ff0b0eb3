use Rattle.std.proofs.Common.{ℕ, List, ◌++◌, ap, ◌∙◌}
use Rattle.serde_json.specs.Written.{compact_text}
use Rattle.agv_message_json.specs.Body.{body_of}
use Rattle.agv_message_json.specs.InstantData.{instant_data}
use Rattle.agv_message_json.proofs.instant_message.instant_text.Goals as goal

pub returns-clause-text : goal.returns-clause-text
returns-clause-text c =
    c.in_ok-put_instant.ensures.appended.whole ∙ ap (λ (l : List ℕ). l ++ compact_text (instant_data c.args.header.now c.args.message.now)) c.new-text.ensures.items

pub returns-clause-reads_back : goal.returns-clause-reads_back
returns-clause-reads_back c = ap body_of (returns-clause-text c) ∙ c.in_ok-put_instant.ensures.reads_back
