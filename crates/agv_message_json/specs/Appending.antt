-- Appending a text to a buffer.
use Rattle.std.specs.Prelude.{◌≡◌, ◌≤◌, ◌+◌, ℕ, List, ◌++◌, length, Result, Vec, vec_len, vec_capacity, IsOk, OnOk}
use Rattle.std.specs.Borrow.{Bor}
use Rattle.std.specs.declared.alloc.Global.{Global}
use Rattle.agv_header.specs.declared.memory.Memory.{Memory}

-- the text was appended, or only some bytes if memory was refused; it was appended if it fits the capacity; the capacity has not shrunk
pub record Appended (result : Result (Unit {0}) Memory) (old new : Vec ℕ Global) (text : List ℕ) : Type 0 where
  pub whole : OnOk result (new.items ≡ old.items ++ text)
  pub part : (more : List ℕ) × (new.items ≡ old.items ++ more)
  pub fits : vec_len old + length text ≤ vec_capacity old → IsOk result
  pub grown : vec_capacity old ≤ vec_capacity new

-- the text was appended, and the capacity has not shrunk; no public clause cites this
abbrev pub SoFar : Vec ℕ Global → Vec ℕ Global → List ℕ → Type 0
SoFar old new text = (new.items ≡ old.items ++ text) × (vec_capacity old ≤ vec_capacity new)

-- the bytes of a word
abbrev pub word_text : Bor (List ℕ) → List ℕ
word_text word = word.now
