use Rattle.std.proofs.Common.{ap, ◌∙◌}
use Rattle.agv_header.specs.declared.key.Thing.TheVariants as thing
use Rattle.agv_track_holds.specs.OrderedSet.{with_thing}
use Rattle.agv_track_holds.proofs.Edges.{along-more}
use Rattle.agv_track_holds.proofs.footprints.add_edges.Goals as goal

pub loop-edge-preserved : goal.loop-edge-preserved
loop-edge-preserved c =
    let edge = c.edge-item.result in (
      c.in_ok-add-2.ensures.knows,
      c.in_ok-add-2.ensures.added
          ∙ ap (λ things. with_thing things (thing.Node edge.finish)) (c.in_ok-add.ensures.added ∙ ap (λ things. with_thing things (thing.Edge edge.id)) c.loop-edge.invariant.1)
          ∙ along-more c.args.edges.now c.loop-edge.edge-index edge c.args.held.now.things.items c.loop-edge-test.true c.edge-item.is,
    )
