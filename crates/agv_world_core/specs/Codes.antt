-- How the keys of tables are coded as values of a model.
use Rattle.std.specs.Prelude.{ℕ, Bool, true, false, List, ◌≡◌, refl}
use Rattle.std.specs.Coded.{Coded, code_by, coded×, coded_ℕ, coded_bool, coded_list}
use Rattle.agv_header.specs.declared.key.VehicleKey.{VehicleKey}
use Rattle.agv_world_core.specs.declared.key.LegKey.{LegKey}
use Rattle.agv_world_core.specs.declared.key.UseKey.{UseKey}
use Rattle.agv_world_core.specs.declared.key.UseKind.{UseKind}
use Rattle.agv_world_core.specs.declared.key.UseKind.TheVariants.{Order, Reference}

-- the code of a name: its bytes
abbrev pub name_code : Coded (List ℕ)
name_code = coded_list coded_ℕ

-- the code of a vehicle's key: its manufacturer and its serial number
abbrev pub key_code : Coded VehicleKey
key_code = code_by (List ℕ × List ℕ) (coded× name_code name_code) (λ v. (v.manufacturer, v.serial)) (λ p. record { manufacturer = p.0; serial = p.1 }) (λ _. refl)

-- the code of an edge of a trip: the order and the index on the way
abbrev pub leg_code : Coded LegKey
leg_code = code_by (List ℕ × ℕ) (coded× name_code coded_ℕ) (λ l. (l.order, l.k)) (λ p. record { order = p.0; k = p.1 }) (λ _. refl)

-- ---- used names

-- whether the kind is a reference
abbrev pub is_reference : UseKind → Bool
is_reference Order = false
is_reference Reference = true

-- the kind of a name: a reference if true, an order if false
abbrev pub use_kind : Bool → UseKind
use_kind false = Order
use_kind true = Reference

-- a kind is the one that its code gives
pub use_kind-is_reference : (kind : UseKind) → use_kind (is_reference kind) ≡ kind
use_kind-is_reference Order = refl
use_kind-is_reference Reference = refl

-- the used name with this code
abbrev pub use_of : Bool × List ℕ → UseKey
use_of p = record { kind = use_kind p.0; name = p.1 }

-- a used name is the one that its code gives
pub use_of-parts : (key : UseKey) → use_of (is_reference key.kind, key.name) ≡ key
use_of-parts key = λ i. record { kind = use_kind-is_reference key.kind i; name = key.name }

-- the code of a used name: its kind and its bytes
abbrev pub use_code : Coded UseKey
use_code = code_by (Bool × List ℕ) (coded× coded_bool name_code) (λ key. (is_reference key.kind, key.name)) use_of use_of-parts
