-- The coding of a table of holds, the value of a model.
use Rattle.std.specs.Prelude.{ℕ, List, ◌⊎◌, ◌≡◌, refl}
use Rattle.std.specs.Coded.{Coded, code_by, coded×, coded⊎, coded_ℕ, coded_list}
use Rattle.std.proofs.Common.{inl, inr}
use Rattle.std.specs.FinMap as map
use Rattle.agv_header.specs.Key.{thing_cmp}
use Rattle.agv_header.specs.declared.key.Thing.{Thing}
use Rattle.agv_header.specs.declared.key.Thing.TheVariants.{Node, Edge}
use Rattle.agv_header.specs.declared.key.VehicleKey.{VehicleKey}

-- a vehicle as a pair: its manufacturer and its serial number
abbrev pub vehicle_code : Coded VehicleKey
vehicle_code =
    code_by (List ℕ × List ℕ) (coded× (coded_list coded_ℕ) (coded_list coded_ℕ)) (λ v. (v.manufacturer, v.serial)) (λ p. record { manufacturer = p.0; serial = p.1 }) (λ _. refl)

-- a thing as one of two: a node's name, or an edge's
abbrev pub side_of : Thing → List ℕ ⊎ List ℕ
side_of (Node name) = inl name
side_of (Edge name) = inr name

-- the thing with this name of a node or an edge
abbrev pub thing_of : List ℕ ⊎ List ℕ → Thing
thing_of (inl name) = Node name
thing_of (inr name) = Edge name

-- `thing_of` undoes `side_of`
pub thing_of-side_of : (thing : Thing) → thing_of (side_of thing) ≡ thing
thing_of-side_of (Node name) = refl
thing_of-side_of (Edge name) = refl

-- the coding of a thing by its name and kind
abbrev pub thing_code : Coded Thing
thing_code = code_by (List ℕ ⊎ List ℕ) (coded⊎ (coded_list coded_ℕ) (coded_list coded_ℕ)) side_of thing_of thing_of-side_of

-- a table of holds by its entries: each thing with the vehicle that holds it
abbrev pub holds_code : Coded (map.FinMap thing_cmp VehicleKey)
holds_code = map.code thing_code vehicle_code
