-- One state of a connection after another: what leaves the first as it was, and then the next, leaves the first as it was.
use Rattle.std.proofs.Common.{◌⊎◌, inl, inr, ◌∙◌}
use Rattle.sqlite.specs.State.{State, IsUnchanged, IsRolledBack}

pub unchanged_then : (a b c : State) → IsUnchanged a b → IsUnchanged b c → IsUnchanged a c
unchanged_then a b c one two = (
  record {
    was_open = one.0.was_open;
    is_open = two.0.is_open;
    now_is = two.0.now_is ∙ one.0.now_is;
    committed_is = two.0.committed_is ∙ one.0.committed_is;
    mode = two.0.mode ∙ one.0.mode;
  },
  record { changes = two.1.changes ∙ one.1.changes; last_rowid = two.1.last_rowid ∙ one.1.last_rowid },
  two.2 ∙ one.2,
)

rolled_then : (a b c : State) → IsUnchanged a b → IsRolledBack b c → IsRolledBack a c
rolled_then a b c one two = record {
  was_open = λ _. one.0.was_open;
  undone = λ still. ((two.undone still).0 ∙ one.0.committed_is, (two.undone still).1 ∙ one.0.committed_is);
  autocommit = two.autocommit;
  unmarked = two.unmarked;
  counts = record { changes = two.counts.changes ∙ one.1.changes; last_rowid = two.counts.last_rowid ∙ one.1.last_rowid };
}

pub failed_then : (a b c : State) → IsUnchanged a b → IsUnchanged b c ⊎ IsRolledBack b c → IsUnchanged a c ⊎ IsRolledBack a c
failed_then a b c one (inl two) = inl (unchanged_then a b c one two)
failed_then a b c one (inr two) = inr (rolled_then a b c one two)
