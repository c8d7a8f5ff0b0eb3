-- Constructors of the JSON values that the desk writes.
use Prim.Native.String.{String}
use Rattle.std.specs.Prelude.{ℕ, List, [], ◌∷◌, Bool, codes}
use Rattle.serde_json.specs.Data.{Data, boolean, number, string, array, object, unsigned, Members, no_members, member}
use Rattle.serde_json.specs.View.{items_of}

-- a member's name and its value
abbrev pub Field : Type 0
Field = List ℕ × Data

-- a member of this name, with this value
abbrev pub field : String → Data → Field
field name d = (codes name, d)

-- the members in the given order
abbrev pub in_order : List Field → Members
in_order [] = no_members
in_order (f ∷ fs) = member f.0 f.1 (in_order fs)

-- the object of these members, which are to be in the order of their names' bytes
abbrev pub object_of : List Field → Data
object_of fields = object (in_order fields)

-- an array of these values
abbrev pub list : List Data → Data
list ds = array (items_of ds)

-- a string
abbrev pub text : List ℕ → Data
text s = string s

-- a whole number
abbrev pub whole : ℕ → Data
whole n = number (unsigned n)

-- `true` or `false`
abbrev pub truth : Bool → Data
truth b = boolean b
