use Rattle.std.proofs.Common.{◌≡◌, ◌<◌, ◌==◌, ℕ, min, not, Bool, true, false, List, Option, None, Some, if◌then◌else◌, refl, sym, ap, eqb-true, ◌∙◌, arith}
use Rattle.std.proofs.lemmas.Bool.Decides.{nat_tests}
use Rattle.std.specs.Option.{option_map}
use Rattle.agv_stock.specs.declared.goal.Goal.TheVariants as to
use Rattle.agv_desk.specs.Shared.{goal_at}
use Rattle.agv_desk.proofs.lists.AskedInTurn.{says_so}
use Rattle.agv_desk.proofs.shared.station_goal.Goals as goal

-- one load more fits where there is room for one
one_fits : (room : ℕ) → min (if not (room == 0) then 1 else 0) 1 ≡ min room 1
one_fits room =
    elim (room == 0) as (λ b. (room == 0) ≡ b → min (if not b then 1 else 0) 1 ≡ min room 1) [
      | true ↦ λ none. ap (λ (n : ℕ). min n 1) (sym (eqb-true room 0 none))
      | false ↦ λ some. let more : 0 < room = grind (arith, nat_tests) in omega (arith, more)
    ] refl

-- so the goal is that of the room
goal_fits : (station : List ℕ) (there : Option ℕ) → goal_at station (option_map (λ (fits : Bool). if fits then 1 else 0) (option_map (λ (room : ℕ). not (room == 0)) there)) ≡ goal_at station there
goal_fits station None = refl
goal_fits station (Some room) = ap (λ (n : ℕ). to.At station n) (one_fits room)

pub returns-clause-is : goal.returns-clause-is
returns-clause-is g c =
    let there = c.in_ok-has_room.ensures in
    says_so there (λ clean.
    c.goal_at.ensures.is ∙ ap (λ (fits : Option Bool). goal_at c.args.station (option_map (λ (one : Bool). if one then 1 else 0) fits)) (there.told clean) ∙ goal_fits c.args.station _)
