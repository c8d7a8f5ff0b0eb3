-- How one value of a row of the world is written into a column, and how it is read back; `None` is for a column that is no such value.
use Rattle.std.specs.Prelude.{ℕ, pos, Bool, true, false, nat_le, if◌then◌else◌, List, [], ◌∷◌, Option, None, Some, codes}
use Rattle.std.specs.List.{find}
use Rattle.std.specs.Ordering.{int_eq}
use Rattle.std.specs.Str.{bytes_eq}
use Rattle.sqlite_value.specs.declared.value.Value.{Value}
use Rattle.sqlite_value.specs.declared.value.Value.TheVariants.{Null, Int, Text}
use Rattle.agv_header.specs.Moment.{moment_at}
use Rattle.agv_header.specs.Name.{as_name}
use Rattle.agv_message_core.specs.Instant.{instant_name}
use Rattle.agv_message_core.specs.Order.{act_name}
use Rattle.agv_message_core.specs.Status.{status_name, statuses}
use Rattle.agv_message_core.specs.declared.instant.InstantKind.{InstantKind}
use Rattle.agv_message_core.specs.declared.instant.InstantKind.TheVariants as instant
use Rattle.agv_message_core.specs.declared.order.ActKind.{ActKind}
use Rattle.agv_message_core.specs.declared.order.ActKind.TheVariants as act
use Rattle.agv_message_core.specs.declared.status.Status.{Status}
use Rattle.agv_stock.specs.Phase.{phase_name}
use Rattle.agv_stock.specs.declared.job.Phase.{Phase}
use Rattle.agv_stock.specs.declared.job.Phase.TheVariants as phase
use Rattle.agv_world_core.specs.declared.key.UseKind.{UseKind}
use Rattle.agv_world_core.specs.declared.key.UseKind.TheVariants as used
use Rattle.agv_store_rows.specs.declared.words.PlaceKind.{PlaceKind}
use Rattle.agv_store_rows.specs.declared.words.PlaceKind.TheVariants as place
use Rattle.agv_store_rows.specs.declared.words.ThingKind.{ThingKind}
use Rattle.agv_store_rows.specs.declared.words.ThingKind.TheVariants as thing

-- what follows a part that could be read; none if it could not
abbrev pub if_some : {A B : Type 0} → Option A → (A → Option B) → Option B
if_some None more = None
if_some (Some x) more = more x

-- ---- values that are always there

-- the name in a TEXT column
abbrev pub name_in : Value → Option (List ℕ)
name_in (Text bytes) = as_name bytes
name_in _ = None

-- the column of a number
abbrev pub number_cell : ℕ → Value
number_cell n = Int (pos n)

-- the number in an INTEGER column, from 0 to 4294967295
abbrev pub number_in : Value → Option ℕ
number_in (Int (pos n)) = if nat_le n 4294967295 then Some n else None
number_in _ = None

-- the column of a truth value, 0 or 1
abbrev pub flag_cell : Bool → Value
flag_cell flag = Int (if flag then pos 1 else pos 0)

-- the truth value in an INTEGER column, 0 or 1
abbrev pub flag_in : Value → Option Bool
flag_in (Int n) = if int_eq n (pos 0) then Some false else (if int_eq n (pos 1) then Some true else None)
flag_in _ = None

-- the time in an INTEGER column, in milliseconds since 1970
abbrev pub moment_in : Value → Option ℕ
moment_in (Int ms) = moment_at ms
moment_in _ = None

-- ---- words

-- the one of these whose word is in a TEXT column
abbrev pub word_in : {K : Type 0} → (K → List ℕ) → List K → Value → Option K
word_in word all (Text bytes) = find (λ one. bytes_eq bytes (word one)) all
word_in word all _ = None

-- the phases of a job
abbrev pub phases : List Phase
phases = phase.Waiting ∷ phase.Riding ∷ phase.Done ∷ phase.Stopped ∷ []

unfoldable pub phase_in : Value → Option Phase
phase_in = word_in phase_name phases

-- the status of an action, in the words of VDA 5050
unfoldable pub status_in : Value → Option Status
status_in = word_in status_name statuses

-- the pending instant actions, in the words of VDA 5050
abbrev pub instants : List InstantKind
instants = instant.StartPause ∷ instant.StopPause ∷ instant.CancelOrder ∷ []

unfoldable pub instant_in : Value → Option InstantKind
instant_in = word_in instant_name instants

-- the kinds of acts, a pick or a drop
abbrev pub act_kinds : List ActKind
act_kinds = act.Pick ∷ act.Drop ∷ []

unfoldable pub act_kind_in : Value → Option ActKind
act_kind_in = word_in act_name act_kinds

-- the word for the kind of place where a load is
abbrev pub place_name : PlaceKind → List ℕ
place_name place.Station = codes "station"
place_name place.Vehicle = codes "vehicle"
place_name place.Checking = codes "checking"
place_name place.Left = codes "left"

abbrev pub place_kinds : List PlaceKind
place_kinds = place.Station ∷ place.Vehicle ∷ place.Checking ∷ place.Left ∷ []

unfoldable pub place_kind_in : Value → Option PlaceKind
place_kind_in = word_in place_name place_kinds

-- the word for the kind of thing that a vehicle holds
abbrev pub thing_name : ThingKind → List ℕ
thing_name thing.Node = codes "node"
thing_name thing.Edge = codes "edge"

abbrev pub thing_kinds : List ThingKind
thing_kinds = thing.Node ∷ thing.Edge ∷ []

unfoldable pub thing_kind_in : Value → Option ThingKind
thing_kind_in = word_in thing_name thing_kinds

-- the word for what a name was used for
abbrev pub use_name : UseKind → List ℕ
use_name used.Order = codes "order"
use_name used.Reference = codes "ref"

abbrev pub use_kinds : List UseKind
use_kinds = used.Order ∷ used.Reference ∷ []

unfoldable pub use_in : Value → Option UseKind
use_in = word_in use_name use_kinds

-- ---- values that may be absent

abbrev pub is_absent : Value → Bool
is_absent Null = true
is_absent _ = false

-- a value that may be absent, which is NULL
abbrev pub maybe_in : {X : Type 0} → (Value → Option X) → Value → Option (Option X)
maybe_in read v = if is_absent v then Some None else if_some (read v) (λ x. Some (Some x))
