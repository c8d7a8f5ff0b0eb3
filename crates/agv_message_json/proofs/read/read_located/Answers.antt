use Rattle.std.proofs.Common.{None, Some, Ok, ap, sym, ◌∙◌}
use Rattle.agv_message_json.proofs.States.{judged-other_version, judged-stamped, no_moment, a_moment}
use Rattle.agv_message_json.proofs.read.read_located.Goals as goal

pub returns-then-not-is_served-clause-err : goal.returns-then-not-is_served-clause-err
returns-then-not-is_served-clause-err c =
    let good = rw c.in-Some.is at c.in_ok-parts.ensures.good in
    let version = rw c.in-Some.is at c.in_ok-parts.ensures.version in
    judged-other_version _ _ good version (sym c.if-not-is_served.true ∙ c.is_served.ensures)

pub returns-in_default-read_stamp-clause-err : goal.returns-in_default-read_stamp-clause-err
returns-in_default-read_stamp-clause-err c =
    let good = rw c.in-Some.is at c.in_ok-parts.ensures.good in
    let version = rw c.in-Some.is at c.in_ok-parts.ensures.version in
    let timestamp = rw c.in-Some.is at c.in_ok-parts.ensures.timestamp in
    judged-stamped _ _ _ None good version (sym c.if-not-is_served.false ∙ c.is_served.ensures) timestamp (no_moment _ _ (sym c.in_default-read_stamp.is ∙ c.read_stamp.ensures))

pub returns-clause-ok : goal.returns-clause-ok
returns-clause-ok c =
    let good = rw c.in-Some.is at c.in_ok-parts.ensures.good in
    let version = rw c.in-Some.is at c.in_ok-parts.ensures.version in
    let timestamp = rw c.in-Some.is at c.in_ok-parts.ensures.timestamp in
    let message = rw c.in-Some.is at c.in_ok-parts.ensures.message in
    judged-stamped _ _ _ (Some c.in-Ok.at) good version (sym c.if-not-is_served.false ∙ c.is_served.ensures) timestamp (a_moment _ _ (sym c.in-Ok.is ∙ c.read_stamp.ensures))
    ∙ ap Ok (message c.in-Ok.at ∙ sym c.in_ok-message.ensures)
