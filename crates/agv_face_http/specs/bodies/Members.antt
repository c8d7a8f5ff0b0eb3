-- The members of a JSON body (RFC 8259; this project's profile). A member that is null counts as absent, the JSON reader keeps the last of two members with one name, and a value that isn't an object has no members.
use Rattle.std.specs.Prelude.{ℕ, List, Option, Some, None, Result, Ok, Err, option_map, option_and_then, codes}
use Rattle.serde_json.specs.Data.{Data}
use Rattle.serde_json.specs.Find.{as_number, as_u64, as_str}
use Rattle.agv_header.specs.Name.{as_name}
use Rattle.agv_header.specs.declared.key.VehicleKey.{VehicleKey}
use Rattle.agv_header.specs.declared.refusal.Refusal.{Refusal}
use Rattle.agv_header.specs.declared.refusal.Refusal.TheVariants as refusal
use Rattle.agv_message_json.specs.Body.{body_of}
use Rattle.agv_message_json.specs.Members.{below_2_32, member_at, text_at}

-- applies `next` to the value, if there is one
abbrev pub given : {A B : Type 0} → Option A → (A → Option B) → Option B
given said next = option_and_then next said

-- a value as a name
abbrev pub name_in : Data → Option (List ℕ)
name_in d = option_and_then as_name (as_str d)

-- the member as a name
unfoldable pub name_at : List ℕ → Data → Option (List ℕ)
name_at member d = option_and_then as_name (text_at member d)

-- an optional value as a name
abbrev pub optional_name : Option Data → Option (Option (List ℕ))
optional_name None = Some None
optional_name (Some d) = option_map Some (name_in d)

-- the member as a name, `Some None` where it is absent
unfoldable pub optional_name_at : List ℕ → Data → Option (Option (List ℕ))
optional_name_at member d = optional_name (member_at member d)

-- a value as a whole number from 0 to 4294967295
abbrev pub whole_in : Data → Option ℕ
whole_in d = option_and_then below_2_32 (option_and_then as_u64 (as_number d))

-- an optional value as such a number, `absent` where there is none
abbrev pub whole_or : ℕ → Option Data → Option ℕ
whole_or absent None = Some absent
whole_or absent (Some d) = whole_in d

-- the member as a whole number from 0 to 4294967295, `absent` where it is absent
unfoldable pub whole_or_at : ℕ → List ℕ → Data → Option ℕ
whole_or_at absent member d = whole_or absent (member_at member d)

-- the vehicle that the members `manufacturer` and `serialNumber` name
unfoldable pub key_at : Data → Option VehicleKey
key_at d =
    given (name_at (codes "manufacturer") d) (λ manufacturer.
    given (name_at (codes "serialNumber") d) (λ serial.
    Some (record { manufacturer = manufacturer; serial = serial })))

-- what the members give, or BadBody where a required one is absent or one has the wrong kind
abbrev pub or_bad_body : {X : Type 0} → Option X → Result X Refusal
or_bad_body None = Err refusal.BadBody
or_bad_body (Some said) = Ok said

-- what the value's members give, or why the body is no value
abbrev pub of_value : {X : Type 0} → (Data → Option X) → Result Data Refusal → Result X Refusal
of_value reader (Err why) = Err why
of_value reader (Ok d) = or_bad_body (reader d)

-- what a reader of JSON values gives for a body, or BadJson, Fraction or BadBody
unfoldable pub json_in : {X : Type 0} → (Data → Option X) → List ℕ → Result X Refusal
json_in reader body = of_value reader (body_of body)
