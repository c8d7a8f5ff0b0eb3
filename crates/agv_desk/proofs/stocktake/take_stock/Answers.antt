use Rattle.std.proofs.Common.{◌≡◌, Option, sym, ap, subst, ◌∙◌}
use Rattle.std.specs.FinMap as map
use Rattle.agv_world_core.specs.Worlds.{World}
use Rattle.agv_desk.specs.CountParts.{AreCounted, AreFound, AreThere, Tells, count_by_parts, counted_loads, standing, stations_in}
use Rattle.agv_desk.specs.Outcomes.{Outcome, decided}
use Rattle.agv_desk.specs.StocktakeSteps.{are_known, count_loads, has_twice}
use Rattle.agv_desk.proofs.lists.AskedInTurn.{answers_last, asked_next}
use Rattle.agv_desk.proofs.stocktakes.CountedMoves.{standing_there}
use Rattle.agv_desk.proofs.stocktakes.CountedStations.{Sites}
use Rattle.agv_desk.proofs.stocktakes.FoundLoads.{Found}
use Rattle.agv_desk.proofs.stocktakes.CountedWhole.{by_parts, opened}
use Rattle.agv_desk.proofs.stocktake.take_stock.Goals as goal

pub returns : goal.returns
returns g c =
    let start = g.F.Floor.facts.world c.args.floor.now in
    let rows = c.args.rows.now in
    let reference = c.args.reference in
    let new = c.in_ok-is_new.ensures in
    let counted = asked_next new c.in_ok-stations.ensures in
    let stood = asked_next counted c.in_ok-standing.ensures in
    let looked = asked_next stood c.in_ok-counted_list.ensures in
    answers_last g.F.Floor.facts c.args.floor.now c.look_up.new.floor c.count_loads.new.floor c.count_loads.result _ _ looked (λ decision list_clean told.
    let stood_clean = c.in_ok-counted_list.ensures.was_clean list_clean in
    let counted_clean = c.in_ok-standing.ensures.was_clean stood_clean in
    let new_clean = c.in_ok-stations.ensures.was_clean counted_clean in
    let stations = subst (λ (o : Option Sites). AreCounted start rows o) c.in-Some.is (subst (λ (w : World). AreCounted w rows c.in_ok-stations.field-0) (new.world new_clean) (counted.told counted_clean)) in
    let found = subst (λ (o : Option Found). AreFound rows o) c.in-Some-2.is c.in_ok-found.ensures in
    let standing_are : c.in_ok-standing.standing.items ≡ standing start (map.entries (stations_in start rows)) = stood.told stood_clean ∙ (λ i. standing (counted.world counted_clean i) (map.entries (stations.1 i))) in
    let known = c.in_ok-places.ensures start (subst (AreThere start) (sym (c.deref.ensures.value ∙ standing_are)) (standing_there start (map.entries (stations_in start rows)))) in
    let counted_list : c.deref-2.result.now ≡ counted_loads start rows =
    c.deref-2.ensures.value ∙ looked.told list_clean (subst (λ (w : World). Tells w c.in_ok-places.places) (sym (stood.world stood_clean)) known) ∙ ap (λ (w : World). counted_loads w rows) (stood.world stood_clean) in
    let outcome = (λ i. count_by_parts (looked.world list_clean i) reference (stations.1 i) (found.1 i) (counted_list i) (standing_are i)) ∙ by_parts start reference rows stations.0
    ∙ opened _ (are_known start rows) (has_twice rows) (count_loads start reference rows) (sym (new.told new_clean) ∙ c.if-not-branch.false) stations.0 found.0 in
    subst (λ (outcome : Outcome). decision ≡ decided outcome) outcome told)
    c.count_loads.ensures
