use Rattle.std.proofs.Common.{ap, subst, ◌∙◌}
use Rattle.agv_world_core.specs.Questions.{count_of, layout_set}
use Rattle.agv_world_core.specs.Worlds.{World}
use Rattle.agv_store_known.specs.KeptJobs.{AreLive}
use Rattle.agv_store_known.proofs.KeptLayout.{agrees_set}
use Rattle.agv_store_known.proofs.Knowing.{with_jobs}
use Rattle.agv_store_known.proofs.known.Known.of.Goals as goal

pub returns : goal.returns
returns c seats world lawful keeps =
    let same = c.tables_tell_the_world.ensures c.args.tables.now world keeps (c.has_consistent_trips.ensures seats world lawful) in
    with_jobs (subst (AreLive c.in_ok-jobs.jobs) keeps.jobs c.in_ok-jobs.ensures)
    (c.new-known.ensures world (λ what. c.of-counts.ensures what ∙ ap (λ (w : World). count_of w what) same)
    (agrees_set c.gives_itself.ensures c.needs_a_node.ensures world lawful.limits.laid c.in_ok-layout.layout (c.in_ok-layout.ensures ∙ ap layout_set same)))
