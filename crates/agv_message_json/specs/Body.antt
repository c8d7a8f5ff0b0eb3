-- The JSON value of a body (RFC 8259), in which all numbers are whole (this project's profile).
use Rattle.std.specs.Prelude.{◌≡◌, ℕ, List, if◌then◌else◌, Option, Some, None, Result, Ok, Err, ⊤}
use Rattle.std.specs.Str.{is_utf8}
use Rattle.serde_json.specs.Data.{Data}
use Rattle.serde_json.specs.Read.{read}
use Rattle.serde_json.specs.Written.{has_float}
use Rattle.agv_header.specs.declared.refusal.Refusal.{Refusal}
use Rattle.agv_header.specs.declared.refusal.Refusal.TheVariants as refusal
use Rattle.agv_message_json.specs.declared.body.BodyFault.{BodyFault}
use Rattle.agv_message_json.specs.declared.body.BodyFault.TheVariants as fault

-- the value, if there is one and its numbers are all whole numbers of 64 bits, otherwise the refusal
abbrev pub whole_only : Option Data → Result Data Refusal
whole_only None = Err refusal.BadJson
whole_only (Some d) = if has_float d then Err refusal.Fraction else Ok d

-- the JSON value of the bytes, or why they are refused
abbrev pub body_of : List ℕ → Result Data Refusal
body_of bytes = if is_utf8 bytes then whole_only (read bytes) else Err refusal.BadJson

-- the fault is the expected refusal, or memory was refused
abbrev pub IsFaultOf : {T : Type 0} → BodyFault → Result T Refusal → Type 0
IsFaultOf (fault.Refused r) expected = expected ≡ Err r
IsFaultOf fault.Memory expected = ⊤
