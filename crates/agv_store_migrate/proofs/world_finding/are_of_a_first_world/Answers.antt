use Rattle.std.proofs.lemmas.Bool.{both_ways}
use Rattle.agv_store_migrate.proofs.WorldTold.{more_seats}
use Rattle.agv_store_migrate.proofs.world_finding.are_of_a_first_world.Goals as goal

pub returns-in_ok-are_footprints : goal.returns-in_ok-are_footprints
returns-in_ok-are_footprints c =
    let held = c.in_ok-are_footprints.ensures in (
      (λ yes. let it = c.in_ok-is_lawful.ensures.0 c.if-branch.true in (it.0, it.1, it.2, (held it.0 it.1 (more_seats it.0 it.2)).0 yes)),
      (λ it. (held it.0 it.1 (more_seats it.0 it.2)).1 it.3),
    )

pub returns-else-branch : goal.returns-else-branch
returns-else-branch c = ((λ yes. absurd (both_ways _ c.if-branch.false yes)), (λ it. c.in_ok-is_lawful.ensures.1 (it.0, it.1, it.2)))
