-- Members of a JSON object. A member that is null counts as absent. Of two members with one name the JSON reader keeps the last.
use Rattle.std.specs.Prelude.{ℕ, ◌^◌, List, [], ◌∷◌, Bool, false, nat_lt, if◌then◌else◌, Option, Some, None, is_some, option_map, option_and_then}
use Rattle.serde_json.specs.Data.{Data, null, boolean, number, string, array, object, Items, no_items, item}
use Rattle.serde_json.specs.Find.{get, as_number, as_u64, as_str, as_bool, as_array}

-- a value, unless it is null
abbrev pub unless_null : Data → Option Data
unless_null null = None
unless_null (boolean b) = Some (boolean b)
unless_null (number n) = Some (number n)
unless_null (string s) = Some (string s)
unless_null (array ds) = Some (array ds)
unless_null (object ms) = Some (object ms)

-- the member of this name, unless it is null
unfoldable pub member_at : List ℕ → Data → Option Data
member_at name d = option_and_then unless_null (get name d)

-- there is a member of this name that is not null
abbrev pub has : List ℕ → Data → Bool
has name d = is_some (member_at name d)

-- a number, if it is at most 4294967295
abbrev pub below_2_32 : ℕ → Option ℕ
below_2_32 n = if nat_lt n (2 ^ 32) then Some n else None

-- the member as a whole number from 0 to 4294967295
unfoldable pub whole_at : List ℕ → Data → Option ℕ
whole_at name d =
    option_and_then below_2_32 (option_and_then as_u64 (option_and_then as_number (member_at name d)))

-- the member as a string
unfoldable pub text_at : List ℕ → Data → Option (List ℕ)
text_at name d = option_and_then as_str (member_at name d)

-- the items of an array as a list
abbrev pub listed : Items → List Data
listed no_items = []
listed (item d ds) = d ∷ listed ds

-- the items of a member that is an array
unfoldable pub items_at : List ℕ → Data → Option (List Data)
items_at name d = option_map listed (option_and_then as_array (member_at name d))

-- a boolean value; an absent one is false
abbrev pub truth_of : Option Data → Option Bool
truth_of None = Some false
truth_of (Some d) = as_bool d

-- the member as a boolean; an absent one is false
unfoldable pub truth_at : List ℕ → Data → Option Bool
truth_at name d = truth_of (member_at name d)

-- the pair of two values, if there are both
abbrev pub both : {A B : Type 0} → Option A → Option B → Option (A × B)
both None other = None
both (Some x) None = None
both (Some x) (Some y) = Some (x, y)
