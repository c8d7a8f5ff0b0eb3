use Rattle.std.proofs.Common.{◌+◌, ◌<◌, ℕ, ap, subst, sym, ◌∙◌}
use Rattle.agv_world_core.specs.Counts.{limit_of, one_more}
use Rattle.agv_world_core.specs.Questions.{count_of}
use Rattle.agv_world_core.specs.Maps.{maps_of}
use Rattle.agv_store_known.specs.Known.{IsKnown}
use Rattle.agv_store_known.proofs.known.Known.follow.Goals as goal

pub returns : goal.returns
returns c world next lead below adds is =
    let its = subst (IsKnown c.follow_each.new.known (count_of world)) lead (c.follow_each.ensures (count_of world) (maps_of world) is) in
    record {
      counted = λ what. c.follow.ensures what (λ some. subst (λ (n : ℕ). n < limit_of what) (sym (its.counted what)) (below what some)) ∙ ap (λ (n : ℕ). n + one_more c.args.more what) (its.counted what) ∙ sym (adds what);
      agrees = its.agrees;
      fits = its.fits;
      trips_are = its.trips_are;
      vehicles_are = its.vehicles_are;
      jobs_are = its.jobs_are;
    }
