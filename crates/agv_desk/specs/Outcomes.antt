-- What a call does: it is refused, or it has an effect on the world and an answer. The checks are in order, and the first one that fails gives the refusal.
use Rattle.std.specs.Prelude.{ℕ, Bool, true, false, List, [], ◌∷◌, ◌++◌, map, Option, None, Some, Ok, Err}
use Rattle.std.specs.FinMap as finite
use Rattle.agv_header.specs.Name.{name_cmp}
use Rattle.agv_header.specs.declared.key.Thing.{Thing}
use Rattle.agv_header.specs.declared.key.VehicleKey.{VehicleKey}
use Rattle.agv_header.specs.declared.refusal.Refusal.{Refusal}
use Rattle.agv_header.specs.declared.refusal.Refusal.TheVariants as refusal
use Rattle.agv_layout.specs.Layout.{Layout}
use Rattle.agv_message_core.specs.declared.order.ActKind.{ActKind}
use Rattle.agv_stock.specs.Checks.{Checked}
use Rattle.agv_stock.specs.declared.place.Place.{Place}
use Rattle.agv_world_core.specs.Questions.{trip_of}
use Rattle.agv_world_core.specs.TableChanges.{written, with_use, layout_changes, job_changes}
use Rattle.agv_world_core.specs.VehicleChanges.{own_changes, vehicle_changes, with_vehicle}
use Rattle.agv_world_core.specs.Worlds.{Vehicle, World}
use Rattle.agv_world_core.specs.declared.change.Change.{Change}
use Rattle.agv_world_core.specs.declared.change.Change.TheVariants as row
use Rattle.agv_world_core.specs.declared.key.UseKey.{UseKey}
use Rattle.agv_world_core.specs.declared.row.JobRow.{JobRow}
use Rattle.agv_world_core.specs.declared.row.VehicleRow.{VehicleRow}
use Rattle.agv_desk.specs.declared.answer.Answer.{Answer}
use Rattle.agv_desk.specs.declared.answer.Answer.TheVariants as answer
use Rattle.agv_desk.specs.declared.answer.Decision.{Decision}

-- ---- effects

-- why a load moves: it is registered, a person or a stocktake records where it is, or an act of an order is finished
pub data Cause : Type 0 where
  Registered : Cause
  Recorded : Cause
  Acted : (kind : ActKind) → (order : List ℕ) → (job : List ℕ) → Cause

-- a load moves to this place, for this cause
pub record Move : Type 0 where
  pub load : List ℕ
  pub place : Place
  pub cause : Cause

-- what changes of the vehicles: nothing; or the row of one, which stands as before with the same trip; or one is written whole, in place of the old one if any
pub data VehicleChange : Type 0 where
  Nothing : VehicleChange
  RowOnly : (key : VehicleKey) → (old : VehicleRow) → (new : VehicleRow) → VehicleChange
  Whole : (key : VehicleKey) → (old : Option Vehicle) → (new : Vehicle) → VehicleChange

-- what a call does that is not refused: its answer; the layout, if it is set; the change of a vehicle; the loads that it moves, in order; the jobs that it writes; and the names that it uses
pub record Effect : Type 0 where
  pub answer : Answer
  pub layout : Option Layout
  pub touched : VehicleChange
  pub moves : List Move
  pub jobs : List (List ℕ × JobRow)
  pub uses : List UseKey

-- the effect of a call that only answers, and changes nothing
abbrev pub answer_only : Answer → Effect
answer_only said = record { answer = said; layout = None; touched = Nothing; moves = []; jobs = []; uses = [] }

-- a call is refused, or has an effect
pub data Outcome : Type 0 where
  Refused : (why : Refusal) → Outcome
  Made : (effect : Effect) → Outcome

-- ---- checks

-- `rest` if the test passes, otherwise the refusal
unfoldable pub refuse_unless : Bool → Refusal → Outcome → Outcome
refuse_unless true why rest = rest
refuse_unless false why rest = Refused why

-- `rest` of the value if there is one, otherwise the refusal
unfoldable pub refuse_if_none : {X : Type 0} → Option X → Refusal → (X → Outcome) → Outcome
refuse_if_none None why rest = Refused why
refuse_if_none (Some x) why rest = rest x

-- `rest` if the checks of a load pass, otherwise their refusal
unfoldable pub checked : Checked → Outcome → Outcome
checked (Ok passed) rest = rest
checked (Err why) rest = Refused why

-- `rest` if no other vehicle holds any of the things, otherwise Held with the first that one holds
unfoldable pub unheld : Option (Thing × VehicleKey) → Outcome → Outcome
unheld None rest = rest
unheld (Some held) rest = Refused (refusal.Held held.0 held.1)

-- the first outcome if true, otherwise the second
unfoldable pub branch : Bool → Outcome → Outcome → Outcome
branch true one other = one
branch false one other = other

-- ---- the world after a call

-- the places of loads after these moves, one after the other
abbrev pub moved : finite.FinMap name_cmp Place → List Move → finite.FinMap name_cmp Place
moved places [] = places
moved places (move ∷ moves) = moved (finite.insert places move.load move.place) moves

-- the world after these names were used
abbrev pub with_uses : World → List UseKey → World
with_uses world [] = world
with_uses world (key ∷ keys) = with_uses (with_use world key.kind key.name) keys

-- the world after this change of a vehicle
abbrev pub with_touched : World → VehicleChange → World
with_touched world Nothing = world
with_touched world (RowOnly key old new) = with_vehicle world key (record { row = new; trip = trip_of world key })
with_touched world (Whole key old new) = with_vehicle world key new

-- the world after the layout was set, if the call sets it
abbrev pub with_layout : World → Option Layout → World
with_layout world None = world
with_layout world (Some layout) = record world { layout = layout }

-- the world after an effect
abbrev pub with_effect : World → Effect → World
with_effect world effect =
    let touched = with_touched (with_layout world effect.layout) effect.touched in
    with_uses (record touched { places = moved touched.places effect.moves; jobs = written touched.jobs effect.jobs }) effect.uses

-- the world after a call: unchanged if the call is refused
unfoldable pub after : World → Outcome → World
after world (Refused why) = world
after world (Made effect) = with_effect world effect

-- the answer to a call
unfoldable pub answer_of : Outcome → Answer
answer_of (Refused why) = answer.Refused why
answer_of (Made effect) = effect.answer

-- the moves of a call
unfoldable pub moves_of : Outcome → List Move
moves_of (Refused why) = []
moves_of (Made effect) = effect.moves

-- ---- the changes of rows

-- the changes that write the rows of the layout, if it is set
abbrev pub laid_changes : Option Layout → List Change
laid_changes None = []
laid_changes (Some layout) = layout_changes layout

-- the changes of a vehicle's rows and holds
abbrev pub touched_changes : VehicleChange → List Change
touched_changes Nothing = []
touched_changes (RowOnly key old new) = own_changes key (Some old) new
touched_changes (Whole key old new) = vehicle_changes key old new

-- all changes of an effect: of the layout, the vehicle, the loads, the jobs and the used names
abbrev pub changes_of : Effect → List Change
changes_of effect =
    laid_changes effect.layout
    ++ (touched_changes effect.touched
    ++ (map (λ (move : Move). row.Load move.load move.place) effect.moves
    ++ (job_changes effect.jobs
    ++ map (λ (key : UseKey). row.Used key) effect.uses)))

-- the decision of an outcome: the answer, and the changes
unfoldable pub decided : Outcome → Decision
decided (Refused why) = record { answer = answer.Refused why; changes = [] }
decided (Made effect) = record { answer = effect.answer; changes = changes_of effect }
