-- Reading and writing bytes.
use Rattle.std.specs.Prelude.{◌≡◌, ℕ, ◌<◌, ◌≤◌, ◌++◌, Bool, true, false, List, [], length, Option}
use Rattle.std.specs.Io.KnownBytes.{Appends, Consumes, IsAtEnd}
use Rattle.agv_face.specs.declared.counting_io.CountingIo.{CountingIo}
use Rattle.agv_face.specs.CountingIo.{inner_of, FailedOnce, FailedNever}

-- one read, whose bytes were appended to the buffer; no bytes at the end of the input
pub record IsRead {R : Type 0} (remaining : R → Option (List ℕ)) (reader reader_then : CountingIo R) (buf buf_then : List ℕ) (more : Bool) : Type 0 where
  pub bytes : List ℕ
  pub put : buf_then ≡ buf ++ bytes
  pub few : length bytes ≤ 4096
  pub fits : length buf_then ≤ 73728
  pub came : Consumes (remaining (inner_of reader)) (remaining (inner_of reader_then)) bytes
  pub at_end : more ≡ false → (bytes ≡ []) × IsAtEnd (remaining (inner_of reader_then))
  pub worked : FailedNever reader reader_then

-- a proper prefix of the bytes was written
pub record IsCut (old new : Option (List ℕ)) (bytes : List ℕ) : Type 0 where
  pub front : List ℕ
  pub lacking : List ℕ
  pub parts : bytes ≡ front ++ lacking
  pub some_lacks : 0 < length lacking
  pub wrote : Appends old new front

-- the bytes were all written, or the writer failed after a proper prefix of them
module _ {W : Type 0} (contents : W → Option (List ℕ)) (writer writer_then : CountingIo W) (bytes : List ℕ) where
  abbrev pub IsPutWhole : Bool → Type 0
  IsPutWhole true = Appends (contents (inner_of writer)) (contents (inner_of writer_then)) bytes × FailedNever writer writer_then
  IsPutWhole false = IsCut (contents (inner_of writer)) (contents (inner_of writer_then)) bytes × FailedOnce writer writer_then
