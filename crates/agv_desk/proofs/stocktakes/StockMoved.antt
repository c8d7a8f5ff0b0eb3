-- A stocktake moves as many loads as have another place afterwards.
use Rattle.std.proofs.Common.{◌≡◌, ◌&&◌, ℕ, ◌+◌, Bool, true, false, cond, not, nat_eq, Option, Some, None, is_some, List, [], ◌∷◌, length, count_by, refl, sym, ap, subst, ◌∙◌, arith}
use Rattle.std.specs.Cmp.Lexicographic.{pointwise}
use Rattle.std.specs.FinMap as finite
use Rattle.std.specs.List.{AllByRecursion, cons_option}
use Rattle.std.specs.Option.{option_map}
use Rattle.std.proofs.lemmas.Bool.{false≢true, true≢false}
use Rattle.std.proofs.lemmas.List.{length-map}
use Rattle.std.proofs.lemmas.List.Sums.{sum_by-cons}
use Rattle.agv_header.specs.KeyOrder.{key_eq}
use Rattle.agv_header.specs.declared.key.VehicleKey.{VehicleKey}
use Rattle.agv_stock.specs.declared.place.Place.{Place}
use Rattle.agv_stock.specs.declared.place.Place.TheVariants as place
use Rattle.agv_world_core.proofs.lists.Entries.{entries_found}
use Rattle.agv_world_core.proofs.lists.Orders.{names_total}
use Rattle.agv_world_core.specs.StockInvariant.{Places}
use Rattle.agv_world_core.specs.Worlds.{World}
use Rattle.agv_desk.specs.Outcomes.{Effect, Made, moved, with_effect}
use Rattle.agv_desk.specs.StockTaken.{number_moved, is_still_at}
use Rattle.agv_desk.specs.StocktakeSteps.{Row, count_move, count_moves, found_at, from_station, is_counted, new_place, new_places, recounted, take_stock, unknown_in}
use Rattle.agv_desk.specs.declared.answer.Answer.TheVariants as answer
use Rattle.agv_desk.proofs.stocktakes.PlacedLoads.{Loads}
use Rattle.agv_desk.proofs.stocktakes.PlacedLoads as placed
use Rattle.agv_desk.proofs.lists.SameNames.{name_itself}
use Rattle.agv_desk.proofs.stocktakes.StockLaws.{after, get-after, or_else, refuse_unless_made, same_made}

-- ---- one load

key_itself : (key : VehicleKey) → key_eq key key ≡ true
key_itself key = ap (λ b. b && pointwise nat_eq key.serial key.serial) (name_itself key.manufacturer) ∙ name_itself key.serial

unless_counted : (counted : Bool) (id : List ℕ) → is_some (from_station counted id None) ≡ not (is_still_at (place.Station id) (or_else (from_station counted id None) (Some (place.Station id))))
unless_counted true id = refl
unless_counted false id = sym (ap not (name_itself id))

unless_there : (test : Bool) (id there : List ℕ) → pointwise nat_eq there id ≡ test
    → is_some (cond test None (Some (place.Station there))) ≡ not (is_still_at (place.Station id) (or_else (cond test None (Some (place.Station there))) (Some (place.Station id))))
unless_there true id there same = sym (ap not (name_itself id))
unless_there false id there other = sym (ap not other)

-- it moves just where it is not still at its place afterwards
moves_or_stays : (counted : List ℕ → Bool) (found : Option (List ℕ)) (at : Place) → is_some (new_place counted found at) ≡ not (is_still_at at (after counted found (Some at)))
moves_or_stays counted None (place.Station id) = unless_counted (counted id) id
moves_or_stays counted (Some there) (place.Station id) = unless_there (pointwise nat_eq there id) id there refl
moves_or_stays counted found (place.Vehicle key) = sym (ap not (key_itself key))
moves_or_stays counted None place.Checking = refl
moves_or_stays counted (Some there) place.Checking = refl
moves_or_stays counted found place.Left = refl

-- ---- all loads

one_more : (name : List ℕ) (to : Option Place) (moves : Loads) (test : Bool) (n : ℕ) → is_some to ≡ test → length moves ≡ n
    → length (cons_option (option_map (λ (at : Place). (name, at)) to) moves) ≡ cond test 1 0 + n
one_more name None moves true n is h = absurd (false≢true is)
one_more name None moves false n is h = omega (arith, h)
one_more name (Some at) moves true n is h = omega (arith, h)
one_more name (Some at) moves false n is h = absurd (true≢false is)

counted_all : (goes : List ℕ → Place → Option Place) (test : List ℕ × Place → Bool) (loads : Loads) → AllByRecursion (λ (load : List ℕ × Place). is_some (goes load.0 load.1) ≡ test load) loads
    → length (placed.moved goes loads) ≡ count_by test loads
counted_all goes test [] each = refl
counted_all goes test (load ∷ loads) each =
    one_more load.0 (goes load.0 load.1) (placed.moved goes loads) (test load) (count_by test loads) each.0 (counted_all goes test loads each.1)
    ∙ sym (sum_by-cons (λ (one : List ℕ × Place). cond (test one) 1 0) load loads)

all_through : {X : Type 0} (P Q : X → Type 0) → ((x : X) → P x → Q x) → (xs : List X) → AllByRecursion P xs → AllByRecursion Q xs
all_through P Q through [] all = tt
all_through P Q through (x ∷ xs) all = (through x all.0, all_through P Q through xs all.1)

module _ (world : World) (rows : List Row) where
  afterwards : Places
  afterwards = moved world.places (count_moves world rows)

  stays : (load : List ℕ × Place) → finite.get world.places load.0 ≡ Some load.1 → is_some (recounted rows load.0 load.1) ≡ not (is_still_at load.1 (finite.get afterwards load.0))
  unfolding afterwards
  stays load there =
      moves_or_stays (is_counted rows) (found_at rows load.0) load.1
      ∙ ap (λ at. not (is_still_at load.1 at)) (sym (get-after world rows load.0 ∙ ap (after (is_counted rows) (found_at rows load.0)) there))

  pub moved_number : length (count_moves world rows) ≡ number_moved world.places (moved world.places (count_moves world rows))
  unfolding afterwards
  moved_number =
      length-map (new_places world rows) count_move
      ∙ counted_all (recounted rows) (λ load. not (is_still_at load.1 (finite.get afterwards load.0))) (finite.entries world.places)
      (all_through _ _ stays (finite.entries world.places) (entries_found names_total world.places))

pub number_told : (world : World) (reference : List ℕ) (rows : List Row) (effect : Effect) → take_stock world reference rows ≡ Made effect
    → effect.answer ≡ answer.Counted (number_moved world.places (with_effect world effect).places) (unknown_in world rows)
number_told world reference rows effect made =
    let fresh = refuse_unless_made _ _ _ effect made in
    let known = refuse_unless_made _ _ _ effect fresh.1 in
    let once = refuse_unless_made _ _ _ effect known.1 in
    let ashore = refuse_unless_made _ _ _ effect once.1 in
    let free = refuse_unless_made _ _ _ effect ashore.1 in
    let room = refuse_unless_made _ _ _ effect free.1 in
    let few = refuse_unless_made _ _ _ effect room.1 in
    subst (λ (e : Effect). e.answer ≡ answer.Counted (number_moved world.places (with_effect world e).places) (unknown_in world rows)) (same_made _ effect few.1)
    (ap (λ number. answer.Counted number (unknown_in world rows)) (moved_number world rows))
