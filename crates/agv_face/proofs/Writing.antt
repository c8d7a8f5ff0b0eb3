-- Bytes that are written in parts.
use Rattle.std.proofs.Common.{◌≡◌, ◌<◌, ◌-◌, ℕ, List, [], length, take, drop, Option, Some, None, sym, ap, ◌∙◌, arith, append-nil, take-append-drop}
use Rattle.std.specs.Io.KnownBytes.{Appends, Keeps}
use Rattle.std.proofs.KnownBytes.{Appends-kept}
use Rattle.std.proofs.Math.ListN.{length-drop}
use Rattle.agv_face.specs.Bytes.{IsCut}
use Rattle.agv_face.specs.CountingIo.{counted, FailedOnce, FailedNever}
use Rattle.agv_face.specs.declared.counting_io.CountingIo.{CountingIo}

-- so many were written, and then no more
pub cut_at : (old now new : Option (List ℕ)) (bytes : List ℕ) (done : ℕ) → Appends old now (take done bytes) → Keeps now new → done < length bytes → IsCut old new bytes
cut_at old now new bytes done wrote kept more =
    let size : length (drop done bytes) ≡ length bytes - done = length-drop done bytes in
    record {
      front = take done bytes;
      lacking = drop done bytes;
      parts = sym (take-append-drop done bytes);
      some_lacks = omega arith;
      wrote = Appends-kept old now new (take done bytes) wrote kept;
    }

-- what took no byte keeps what was there
pub keeps-nil : (now new : Option (List ℕ)) → Appends now new [] → Keeps now new
keeps-nil None new took = tt
keeps-nil (Some xs) None took = absurd took
keeps-nil (Some xs) (Some ys) took = took ∙ append-nil xs

-- a failure behind none
pub failed_then : {T : Type 0} (old mid new : CountingIo T) → FailedNever old mid → FailedOnce mid new → FailedOnce old new
failed_then old mid new never once = once ∙ ap (λ (n : ℕ). counted n 1) never
