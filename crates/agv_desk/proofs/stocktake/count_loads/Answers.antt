use Rattle.std.proofs.Common.{◌≡◌, ℕ, List, nat_lt, sym, ap, ◌∙◌}
use Rattle.std.specs.FinMap as map
use Rattle.std.specs.List.{list_any}
use Rattle.std.proofs.lemmas.Bool.{le-ltb, lt-ltb}
use Rattle.agv_header.specs.Limits.{most_records}
use Rattle.agv_stock.specs.declared.place.Place.{Place}
use Rattle.agv_world_core.specs.Questions.{count_of}
use Rattle.agv_world_core.specs.Worlds.{World}
use Rattle.agv_world_core.specs.declared.floor.Counted.TheVariants as counted
use Rattle.agv_desk.specs.CountParts.{all_have_room, counted_effect, moves_list}
use Rattle.agv_desk.specs.Outcomes.{Made, decided}
use Rattle.agv_desk.specs.Shared.{is_in_job}
use Rattle.agv_desk.proofs.lists.AskedInTurn.{asked_next, says_so}
use Rattle.agv_desk.proofs.stocktakes.CountedWhole.{limited, passed}
use Rattle.agv_desk.proofs.stocktake.count_loads.Goals as goal

pub returns-then-branch-ge-MAX_RECORDS : goal.returns-then-branch-ge-MAX_RECORDS
returns-then-branch-ge-MAX_RECORDS g c =
    let start = g.F.Floor.facts.world c.args.floor.now in
    let stations = c.args.count.now.stations in
    let found = c.args.count.now.found in
    let counted_list = c.args.counted_list.now in
    let moves = moves_list stations found counted_list c.args.count.now.standing.items in
    let moved = c.in_ok-moves.ensures in
    let jobs = c.in_ok-moves_in_job.ensures in
    let fit = asked_next jobs c.in_ok-all_fit.ensures in
    let used = asked_next fit c.in_ok-count.ensures in
    says_so used (λ clean.
    let fit_clean = c.in_ok-count.ensures.was_clean clean in
    let job_clean = c.in_ok-all_fit.ensures.was_clean fit_clean in
    let listed : c.deref.result.now ≡ moves = c.deref.ensures.value ∙ moved in
    let none_on_vehicle = sym c.some_on_vehicle.ensures ∙ c.if-some_on_vehicle.false in
    let none_in_job = sym (jobs.told job_clean ∙ (λ i. list_any (λ (load : List ℕ × Place). is_in_job start load.0) (listed i))) ∙ c.if-branch.false in
    let room = sym (fit.told fit_clean ∙ ap (λ (w : World). all_have_room w counted_list (map.entries stations)) (jobs.world job_clean)) ∙ c.if-not-branch.false in
    let many = ap (λ n. nat_lt n most_records) (sym (used.told clean ∙ ap (λ (w : World). count_of w counted.References) (fit.world fit_clean))) ∙ le-ltb _ _ c.if-branch-ge-MAX_RECORDS.true in
    c.refused-then-branch-ge-MAX_RECORDS.ensures ∙ ap decided (limited _ _ _ _ (Made (counted_effect c.args.reference moves counted_list)) none_on_vehicle none_in_job room many))

pub returns : goal.returns
returns g c =
    let start = g.F.Floor.facts.world c.args.floor.now in
    let stations = c.args.count.now.stations in
    let found = c.args.count.now.found in
    let counted_list = c.args.counted_list.now in
    let moves = moves_list stations found counted_list c.args.count.now.standing.items in
    let moved = c.in_ok-moves.ensures in
    let jobs = c.in_ok-moves_in_job.ensures in
    let fit = asked_next jobs c.in_ok-all_fit.ensures in
    let used = asked_next fit c.in_ok-count.ensures in
    says_so used (λ clean.
    let fit_clean = c.in_ok-count.ensures.was_clean clean in
    let job_clean = c.in_ok-all_fit.ensures.was_clean fit_clean in
    let listed : c.deref.result.now ≡ moves = c.deref.ensures.value ∙ moved in
    let listed_again : c.deref-2.result.now ≡ moves = c.deref-2.ensures.value ∙ moved in
    let none_on_vehicle = sym c.some_on_vehicle.ensures ∙ c.if-some_on_vehicle.false in
    let none_in_job = sym (jobs.told job_clean ∙ (λ i. list_any (λ (load : List ℕ × Place). is_in_job start load.0) (listed i))) ∙ c.if-branch.false in
    let room = sym (fit.told fit_clean ∙ ap (λ (w : World). all_have_room w counted_list (map.entries stations)) (jobs.world job_clean)) ∙ c.if-not-branch.false in
    let few = ap (λ n. nat_lt n most_records) (sym (used.told clean ∙ ap (λ (w : World). count_of w counted.References) (fit.world fit_clean))) ∙ lt-ltb _ _ c.if-branch-ge-MAX_RECORDS.false in
    c.in_ok-counted_decision.ensures
    ∙ ap (λ (moves : List (List ℕ × Place)). decided (Made (counted_effect c.args.reference moves counted_list))) listed_again
    ∙ ap decided (passed _ _ _ _ (Made (counted_effect c.args.reference moves counted_list)) none_on_vehicle none_in_job room few))
