use Rattle.std.proofs.Common.{ℕ, Bool, List, ap, ◌∙◌}
use Rattle.std.specs.List.{list_all}
use Rattle.agv_layout.specs.declared.station.StationSite.{StationSite}
use Rattle.agv_world_core.proofs.lists.Asking.{asked_as}
use Rattle.agv_world_core.specs.Questions.{reserved}
use Rattle.agv_desk.specs.CountParts.{has_room_for, count_at}
use Rattle.agv_desk.proofs.stocktake.room.all_fit.Goals as goal

pub returns : goal.returns
returns g c =
    let start = g.F.Floor.facts.world c.args.floor.now in
    let fit_all : (List ℕ → ℕ) → List (List ℕ × StationSite) → Bool = λ count stations. list_all (λ (s : List ℕ × StationSite). has_room_for (count s.0) (reserved start s.0) s.1) stations in
    asked_as g.F.Floor.facts c.args.floor.now c.each_fits.new.floor c.each_fits.result _ _
    (λ fit told. told ∙ (λ i. fit_all (λ station. c.in_ok-counts.ensures station i) c.deref.result.now) ∙ ap (fit_all (count_at c.args.counted_list.now)) (c.deref.ensures.value ∙ c.in_ok-stations.ensures))
    c.each_fits.ensures
