-- A name has no slash, so the text is cut at the ends of its names.
use Rattle.std.proofs.Common.{◌++◌, ◌∷◌, ℕ, List, ap, sym, ◌∙◌, codes, lit<}
use Rattle.std.proofs.lemmas.Str.Pattern.{split_after, split_parts}
use Rattle.agv_header.proofs.TopicLemmas.{name_no_slash, after_prefix, joined}
use Rattle.agv_header.proofs.topic.levels.Goals as goal

pub returns-in_err-manufacturer-clause-all : goal.returns-in_err-manufacturer-clause-all
returns-in_err-manufacturer-clause-all c manufacturer serial name m s text =
    let cut = c.in_ok-rest.ensures.cases in
    let rest = after_prefix _ _ manufacturer serial name cut.0 cut.1.0 cut.2 text in
    absurd (rw c.in_err-manufacturer.was at (split_after 47 _ manufacturer (serial ++ 47 ∷ name) c.split_once.result c.split_once.ensures.cases (lit< tt) rest (name_no_slash manufacturer m)))

pub returns-in_err-serial-clause-all : goal.returns-in_err-serial-clause-all
returns-in_err-serial-clause-all c manufacturer serial name m s text =
    let cut = c.in_ok-rest.ensures.cases in
    let rest = after_prefix _ _ manufacturer serial name cut.0 cut.1.0 cut.2 text in
    let first = rw c.in_ok-manufacturer.was at (split_after 47 _ manufacturer (serial ++ 47 ∷ name) c.split_once.result c.split_once.ensures.cases (lit< tt) rest (name_no_slash manufacturer m)) in
    absurd (rw c.in_err-serial.was at (split_after 47 _ serial name c.split_once-2.result c.split_once-2.ensures.cases (lit< tt) first.1 (name_no_slash serial s)))

pub returns-clause-reads : goal.returns-clause-reads
returns-clause-reads c =
    let cut = c.in_ok-rest.ensures.cases in
    let first = rw c.in_ok-manufacturer.was at (split_parts 47 _ c.split_once.result c.split_once.ensures.cases (lit< tt)) in
    let second = rw c.in_ok-serial.was at (split_parts 47 _ c.split_once-2.result c.split_once-2.ensures.cases (lit< tt)) in
    joined _ _ _ _ _ _ (cut.1.1 ∙ ap (λ (l : List ℕ). codes "uagv/v2/" ++ l) (sym cut.2)) first.0 second.0

pub returns-clause-all : goal.returns-clause-all
returns-clause-all c manufacturer serial name m s text =
    let cut = c.in_ok-rest.ensures.cases in
    let rest = after_prefix _ _ manufacturer serial name cut.0 cut.1.0 cut.2 text in
    let first = rw c.in_ok-manufacturer.was at (split_after 47 _ manufacturer (serial ++ 47 ∷ name) c.split_once.result c.split_once.ensures.cases (lit< tt) rest (name_no_slash manufacturer m)) in
    let second = rw c.in_ok-serial.was at (split_after 47 _ serial name c.split_once-2.result c.split_once-2.ensures.cases (lit< tt) first.1 (name_no_slash serial s)) in
    (first.0, second.0, second.1)
