-- What is true after a stocktake, in the terms of a warehouse (this project's profile).
use Rattle.std.specs.Prelude.{◌≡◌, ◌↔◌, not, ℕ, Bool, true, false, List, count_by, Option, None, Some}
use Rattle.std.specs.FinMap as finite
use Rattle.agv_stock.specs.Rooms.{has_left, is_at, is_checking, is_on}
use Rattle.agv_stock.specs.declared.place.Place.{Place}
use Rattle.agv_stock.specs.declared.place.Place.TheVariants as place
use Rattle.agv_world_core.specs.StockInvariant.{Places}
use Rattle.agv_world_core.specs.Worlds.{World}
use Rattle.agv_desk.specs.StocktakeSteps.{Row, found_at, is_counted, is_here}

-- the load is at no station that was counted
abbrev pub IsElsewhere : World → List Row → List ℕ → Type 0
IsElsewhere world rows load = (station : List ℕ) → finite.get world.places load ≡ Some (place.Station station) → is_counted rows station ≡ false

-- where the loads are afterwards: at a counted station exactly the loads that were found there, are registered and have not left; at the checking place each load that was at a counted station and was not found; each other load where it was; and no load that is not registered or has left comes back
pub record IsStockTaken (world : World) (rows : List Row) (places : Places) : Type 0 where
  pub found : (station load : List ℕ) → is_counted rows station ≡ true
      → (finite.get places load ≡ Some (place.Station station)) ↔ ((found_at rows load ≡ Some station) × (is_here (finite.get world.places load) ≡ true))
  pub missed : (station load : List ℕ) → is_counted rows station ≡ true → finite.get world.places load ≡ Some (place.Station station) → found_at rows load ≡ None → finite.get places load ≡ Some place.Checking
  pub others : (load : List ℕ) → found_at rows load ≡ None → IsElsewhere world rows load → finite.get places load ≡ finite.get world.places load
  pub gone : (load : List ℕ) → is_here (finite.get world.places load) ≡ false → finite.get places load ≡ finite.get world.places load

-- ---- how many loads have moved

-- the two places are the same
abbrev pub is_same_place : Place → Place → Bool
is_same_place (place.Station id) other = is_at id other
is_same_place (place.Vehicle key) other = is_on key other
is_same_place place.Checking other = is_checking other
is_same_place place.Left other = has_left other

-- the load is still at this place
abbrev pub is_still_at : Place → Option Place → Bool
is_still_at before None = false
is_still_at before (Some after) = is_same_place before after

-- the number of loads that have another place afterwards than before
abbrev pub number_moved : Places → Places → ℕ
number_moved before after = count_by (λ (load : List ℕ × Place). not (is_still_at load.1 (finite.get after load.0))) (finite.entries before)
