-- The loads that stand at some stations are noted station by station, and each with its place.
use Rattle.std.proofs.Common.{◌≡◌, ℕ, zero, suc, ◌+◌, ◌<◌, ◌≤◌, true, false, cond, Some, is_some, List, [], ◌∷◌, ◌++◌, length, drop, get_or, append_assoc, append-nil, arith, refl, sym, ap, subst, ◌∙◌}
use Rattle.std.specs.FinMap as map
use Rattle.std.specs.Ordering.{eq_by_cmp}
use Rattle.std.proofs.lemmas.Bool.{false≢true}
use Rattle.std.proofs.lemmas.List.{at_drop_more, at_drop_all}
use Rattle.agv_header.specs.Name.{name_cmp}
use Rattle.agv_layout.specs.declared.station.StationSite.{StationSite}
use Rattle.agv_stock.specs.declared.place.Place.{Place}
use Rattle.agv_world_core.specs.Questions.{loads_at}
use Rattle.agv_world_core.specs.Worlds.{World}
use Rattle.agv_world_core.proofs.lists.Orders.{names_total}
use Rattle.agv_desk.specs.CountParts.{AreThere, Tells, standing, standing_at}
use Rattle.agv_desk.proofs.lists.SameNames.{same_name, tie_turned}

-- ---- the loads of one station more

pub standing_more : (world : World) (loads : List (List ℕ × Place)) (stations : List (List ℕ × StationSite)) (i : ℕ) (station : List ℕ × StationSite) (all : List (List ℕ × Place)) → i < length stations → station ≡ get_or stations i station
    → loads ++ standing world (drop i stations) ≡ all → (loads ++ standing_at station.0 (loads_at world station.0)) ++ standing world (drop (i + 1) stations) ≡ all
standing_more world loads stations i station all within at is =
    append_assoc loads _ _
    ∙ ap (λ (s : List ℕ × StationSite). loads ++ standing world (s ∷ drop (i + 1) stations)) at
    ∙ sym (at_drop_more (λ (rest : List (List ℕ × StationSite)). loads ++ standing world rest) stations i station within)
    ∙ is

pub standing_all : (world : World) (loads all : List (List ℕ × Place)) (stations : List (List ℕ × StationSite)) (i : ℕ) → length stations ≤ i → loads ++ standing world (drop i stations) ≡ all → loads ≡ all
standing_all world loads all stations i past is = sym (append-nil loads) ∙ sym (at_drop_all (λ (rest : List (List ℕ × StationSite)). loads ++ standing world rest) stations i past) ∙ is

-- ---- the places by the loads' names

abbrev pub Places : Type 0
Places = map.FinMap name_cmp Place

pub none_told : (world : World) → Tells world map.empty
none_told world load at noted = absurd (false≢true (ap is_some (sym (map.get-empty name_cmp load) ∙ noted)))

-- the load at an index is at its place
at_place : (world : World) (loads : List (List ℕ × Place)) (i : ℕ) (load : List ℕ × Place) → i < length loads → load ≡ get_or loads i load → AreThere world loads → map.get world.places load.0 ≡ Some load.1
at_place world [] i load within is there = let none : ⊥ = omega (arith, within) in absurd none
at_place world (first ∷ loads) zero load within is there = subst (λ (l : List ℕ × Place). map.get world.places l.0 ≡ Some l.1) (sym is) there.0
at_place world (first ∷ loads) (suc i) load within is there = at_place world loads i load (omega (arith, within)) is there.1

-- one load more
pub told_more : (world : World) (places : Places) (loads : List (List ℕ × Place)) (i : ℕ) (load : List ℕ × Place) → i < length loads → load ≡ get_or loads i load → AreThere world loads → Tells world places → Tells world (map.insert places load.0 load.1)
told_more world places loads i load within is there told q at noted =
    elim (eq_by_cmp name_cmp q load.0) as (λ b. eq_by_cmp name_cmp q load.0 ≡ b → cond b (Some load.1) (map.get places q) ≡ Some at → map.get world.places q ≡ Some at) [
      | true ↦ λ same found. ap (map.get world.places) (sym (same_name load.0 q (sym (tie_turned q load.0) ∙ same))) ∙ at_place world loads i load within is there ∙ found
      | false ↦ λ _ found. told q at found
    ] refl (sym (map.get-insert names_total places load.0 load.1 q) ∙ noted)
