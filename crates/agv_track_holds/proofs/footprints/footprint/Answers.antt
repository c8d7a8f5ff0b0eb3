use Rattle.std.proofs.Common.{[], ap, ◌∙◌}
use Rattle.agv_track_holds.specs.Footprints.{footprint_of, things_by}
use Rattle.agv_track_holds.specs.OrderedSet.{with_things}
use Rattle.agv_track_holds.proofs.Firsts.{once-things}
use Rattle.agv_track_holds.proofs.footprints.footprint.Goals as goal

pub returns : goal.returns
unfolding footprint_of
returns c =
    let standing = c.args.standing.now in
    let things = things_by standing.node standing.rest standing.trip in
    c.in_ok-add_standing.ensures.added ∙ ap (λ none. with_things none things) c.new-held.ensures.none ∙ once-things [] things
