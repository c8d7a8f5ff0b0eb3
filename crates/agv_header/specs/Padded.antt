-- How a name is stored: its bytes, then zeros up to 32, and the number of its bytes.
use Rattle.std.specs.Prelude.{◌≡◌, ℕ, ◌-◌, ◌≤◌, List, ◌++◌, length, take, drop, replicate}
use Rattle.std.proofs.Common.{arith, ap, sym, ◌∙◌, take-append-drop, length-take-le}
use Rattle.agv_header.specs.Name.{IsName}
use Rattle.agv_header.specs.declared.name.Name.TheInside.{Inside}

-- the bytes of the name itself
abbrev pub shown : Inside → List ℕ
shown name = take name.len name.bytes

-- a stored name: 32 bytes, of which the first are the name's own and the others are zeros
abbrev pub IsPadded : Inside → Type 0
IsPadded name = (name.len ≤ 32) × (length name.bytes ≡ 32) × (drop name.len name.bytes ≡ replicate (32 - name.len) 0) × IsName (shown name)

-- the stored form of the name with these bytes
abbrev pub padded : List ℕ → Inside
padded s = record { bytes = s ++ replicate (32 - length s) 0; len = length s }

-- a name has exactly one stored form
pub padded-shown : (name : Inside) → IsPadded name → padded (shown name) ≡ name
padded-shown name h =
    let len : length (shown name) ≡ name.len = length-take-le name.len name.bytes (omega (arith, h.0, h.1)) in
    let zeros : replicate {A = ℕ} (32 - length (shown name)) 0 ≡ drop name.len name.bytes = ap (λ (n : ℕ). replicate (32 - n) 0) len ∙ sym h.2 in
    let bytes : shown name ++ replicate (32 - length (shown name)) 0 ≡ name.bytes = ap (λ (l : List ℕ). shown name ++ l) zeros ∙ take-append-drop name.len name.bytes in
    λ i. record { bytes = bytes i; len = len i }
