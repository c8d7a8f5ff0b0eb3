-- Tables of holds, and how holds are claimed and shed.
use Rattle.std.specs.Prelude.{◌≡◌, ◌⊎◌, Bool, false, not, IsTrue, ◌&&◌, if◌then◌else◌, List, [], ◌∷◌, ◌++◌, Option, None, Some, filter}
use Rattle.std.specs.Option.{is_none}
use Rattle.std.specs.FinMap.{FinMap, get, insert, retain_keys}
use Rattle.std.specs.List.{list_any}
use Rattle.agv_header.specs.Key.{thing_cmp}
use Rattle.agv_header.specs.KeyOrder.{key_eq}
use Rattle.agv_header.specs.ThingOrder.{thing_eq}
use Rattle.agv_header.specs.declared.key.Thing.{Thing}
use Rattle.agv_header.specs.declared.key.VehicleKey.{VehicleKey}

-- a table of holds: for each thing that is held, the vehicle that holds it
abbrev pub Holds : Type 0
Holds = FinMap thing_cmp VehicleKey

-- the thing is in the list
abbrev pub is_in : Thing → List Thing → Bool
is_in thing things = list_any (thing_eq thing) things

-- ---- claiming

-- the holder, if it is another vehicle than this one
abbrev pub other_holder : VehicleKey → Option VehicleKey → Option VehicleKey
other_holder key None = None
other_holder key (Some by) = if key_eq by key then None else Some by

-- the thing and the other vehicle that holds it, if there is one, otherwise the result for the rest of the list
abbrev pub or_further : Thing → Option VehicleKey → Option (Thing × VehicleKey) → Option (Thing × VehicleKey)
or_further thing None further = further
or_further thing (Some by) further = Some (thing, by)

-- the first thing of the list that another vehicle holds, and that vehicle
abbrev pub first_held : Holds → VehicleKey → List Thing → Option (Thing × VehicleKey)
first_held table key [] = None
first_held table key (thing ∷ things) = or_further thing (other_holder key (get table thing)) (first_held table key things)

-- each thing of the list is held by this vehicle or by none
abbrev pub IsOpenTo : Holds → VehicleKey → List Thing → Type 0
IsOpenTo table key things = (thing : Thing) → IsTrue (is_in thing things) → (get table thing ≡ None) ⊎ (get table thing ≡ Some key)

-- the thing is in the list and held by another vehicle, and no thing before it is held by another
abbrev pub IsFirstHeld : Holds → VehicleKey → List Thing → Thing → VehicleKey → Type 0
IsFirstHeld table key things what by =
    (before : List Thing) × (after : List Thing) × (things ≡ before ++ what ∷ after)
    × (get table what ≡ Some by) × (¬ (by ≡ key)) × IsOpenTo table key before

-- the table after the vehicle has got each thing of the list
abbrev pub claimed : Holds → VehicleKey → List Thing → Holds
claimed table key [] = table
claimed table key (thing ∷ things) = insert (claimed table key things) thing key

-- the things of the list that nobody holds
abbrev pub unheld_of : Holds → List Thing → List Thing
unheld_of table things = filter (λ thing. is_none (get table thing)) things

-- ---- shedding

-- the holder is this vehicle
abbrev pub is_own : VehicleKey → Option VehicleKey → Bool
is_own key None = false
is_own key (Some by) = key_eq by key

-- the vehicle gives up the thing: it holds it, and the thing is in the old list and not in the new one
abbrev pub sheds : VehicleKey → List Thing → List Thing → Thing → Option VehicleKey → Bool
sheds key old new thing by = is_own key by && is_in thing old && not (is_in thing new)

-- the table without the things that the vehicle gives up
abbrev pub shed_from : Holds → VehicleKey → List Thing → List Thing → Holds
shed_from table key old new = retain_keys table (λ thing. not (sheds key old new thing (get table thing)))
