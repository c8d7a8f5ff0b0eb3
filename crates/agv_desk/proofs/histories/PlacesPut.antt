-- After a list of calls the places are those that their moves leave, and each load is where the last of them has put it.
use Rattle.std.proofs.Common.{◌≡◌, ℕ, Bool, true, false, cond, nat_eq, List, [], ◌∷◌, ◌++◌, Option, None, Some, refl, sym, ap, ◌∙◌}
use Rattle.std.specs.Cmp.Lexicographic.{pointwise, nat_list_cmp_total}
use Rattle.std.specs.FinMap as finite
use Rattle.agv_header.specs.Name.{name_cmp}
use Rattle.agv_stock.specs.declared.place.Place.{Place}
use Rattle.agv_world_core.specs.Worlds.{World}
use Rattle.agv_desk.specs.Histories.{last_place, later_of}
use Rattle.agv_desk.specs.Outcomes.{Outcome, Refused, Made, Move, moved, after, moves_of}
use Rattle.agv_desk.specs.Step.{step, steps, moves}
use Rattle.agv_desk.specs.declared.call.Call.{Call}
use Rattle.agv_desk.proofs.outcomes.EffectParts.{effect_places}
use Rattle.agv_desk.proofs.lists.SameNames.{tie_turned}

moved-append : (places : finite.FinMap name_cmp Place) (first later : List Move) → moved places (first ++ later) ≡ moved (moved places first) later
moved-append places [] later = refl
moved-append places (move ∷ first) later = moved-append (finite.insert places move.load move.place) first later

-- the places after a call
places_after : (world : World) (outcome : Outcome) → (after world outcome).places ≡ moved world.places (moves_of outcome)
unfolding after moves_of
places_after world (Refused why) = refl
places_after world (Made effect) = effect_places world effect

pub places_put : (seats : ℕ) (world : World) (calls : List (ℕ × Call)) → (steps seats world calls).places ≡ moved world.places (moves seats world calls)
places_put seats world [] = refl
places_put seats world (made ∷ calls) =
    let outcome = step seats world made.0 made.1 in
    places_put seats (after world outcome) calls
    ∙ ap (λ places. moved places (moves seats (after world outcome) calls)) (places_after world outcome)
    ∙ sym (moved-append world.places (moves_of outcome) (moves seats (after world outcome) calls))

-- ---- of one load

one_move : (later : Option Place) (same : Bool) (place : Place) (before : Option Place) → later_of later (cond same (Some place) before) ≡ later_of (later_of later (cond same (Some place) None)) before
one_move None true place before = refl
one_move None false place before = refl
one_move (Some later) same place before = refl

put_last : (moves : List Move) (places : finite.FinMap name_cmp Place) (load : List ℕ) → finite.get (moved places moves) load ≡ later_of (last_place moves load) (finite.get places load)
put_last [] places load = refl
put_last (move ∷ moves) places load =
    put_last moves (finite.insert places move.load move.place) load
    ∙ ap (later_of (last_place moves load)) (finite.get-insert nat_list_cmp_total places move.load move.place load ∙ ap (λ same. cond same (Some move.place) (finite.get places load)) (tie_turned load move.load))
    ∙ one_move (last_place moves load) (pointwise nat_eq move.load load) move.place (finite.get places load)

pub load_put : (seats : ℕ) (world : World) (calls : List (ℕ × Call)) (load : List ℕ)
    → finite.get (steps seats world calls).places load ≡ later_of (last_place (moves seats world calls) load) (finite.get world.places load)
load_put seats world calls load = ap (λ places. finite.get places load) (places_put seats world calls) ∙ put_last (moves seats world calls) world.places load
