-- What clauses say of a reader or writer whose calls are counted.
use Rattle.std.specs.Prelude.{◌≡◌, ℕ, ◌≤◌, ◌⊎◌, ◌+◌, ◌-◌, ◌^◌, min}
use Rattle.agv_face.specs.declared.counting_io.CountingIo.{CountingIo}

-- the wrapped reader or writer
abbrev pub inner_of : {T : Type 0} → CountingIo T → T
inner_of io = io.inner

-- the number of its calls
abbrev pub calls_of : {T : Type 0} → CountingIo T → ℕ
calls_of io = io.calls

-- the number of its failed calls
abbrev pub failures_of : {T : Type 0} → CountingIo T → ℕ
failures_of io = io.failures

-- a count increased by `more`, capped at 2^64 - 1
abbrev pub counted : ℕ → ℕ → ℕ
counted count more = min (count + more) (2 ^ 64 - 1)

-- one call was made
abbrev pub HadCall : {T : Type 0} → CountingIo T → CountingIo T → Type 0
HadCall old new = calls_of new ≡ counted (calls_of old) 1

-- at least n calls were made
abbrev pub HadCalls : {T : Type 0} → ℕ → CountingIo T → CountingIo T → Type 0
HadCalls n old new = counted (calls_of old) n ≤ calls_of new

-- at most n calls were made
abbrev pub HadCallsAtMost : {T : Type 0} → ℕ → CountingIo T → CountingIo T → Type 0
HadCallsAtMost n old new = calls_of new ≤ counted (calls_of old) n

-- one call failed
abbrev pub FailedOnce : {T : Type 0} → CountingIo T → CountingIo T → Type 0
FailedOnce old new = failures_of new ≡ counted (failures_of old) 1

-- no call failed
abbrev pub FailedNever : {T : Type 0} → CountingIo T → CountingIo T → Type 0
FailedNever old new = failures_of new ≡ failures_of old

-- one call failed, or at least n calls were made and none failed
abbrev pub RanOut : {T : Type 0} → ℕ → CountingIo T → CountingIo T → Type 0
RanOut n old new = FailedOnce old new ⊎ (HadCalls n old new × FailedNever old new)
