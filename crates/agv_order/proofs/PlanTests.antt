-- What the code looks at, to test whether a trip is planned on a layout.
use Rattle.std.proofs.Common.{◌≡◌, ◌≢◌, ℕ, suc, ◌-◌, ◌<◌, ◌==◌, Bool, true, false, Some, List, [], ◌∷◌, map, length, get_or, refl, sym, ap, ◌∙◌, arith}
use Rattle.std.specs.List.{list_all, slice_get}
use Rattle.std.specs.Option.{option_map}
use Rattle.std.proofs.lemmas.Bool.{eqb-true, eqb-false}
use Rattle.std.proofs.lemmas.List.Folds.{list_all-map}
use Rattle.std.proofs.lemmas.Option.{slice_get-map, slice_get-get_or}
use Rattle.agv_layout.specs.declared.edge.Edge.{Edge}
use Rattle.agv_order.specs.Stops.{are_paired, kinds_of, is_pick_then_drop}
use Rattle.agv_order.specs.Trips.{Task, nodes_on, task_of, stop_of}
use Rattle.agv_order.specs.WellFormedTest.{are_in_order, is_rising, stops_of}
use Rattle.agv_order.specs.declared.act.Act.{Act}
use Rattle.agv_order.specs.declared.stop.Stop.{Stop}

-- node k is the finish of the edge before it
pub node-after : (start : List ℕ) (edges : List Edge) (k : ℕ) (edge : Edge) → k ≢ 0 → k - 1 < length edges → edge ≡ get_or edges (k - 1) edge → Some edge.finish ≡ slice_get (nodes_on start edges) k
node-after start edges k edge apart within is =
    ap (λ (e : Edge). Some e.finish) is
    ∙ ap (option_map (λ (e : Edge). e.finish)) (sym (slice_get-get_or edges (k - 1) edge within))
    ∙ sym (slice_get-map (λ (e : Edge). e.finish) edges (k - 1))
    ∙ ap (slice_get (nodes_on start edges)) one_more
  where
    one_more : suc (k - 1) ≡ k
    one_more = omega arith

-- each job that an act names is picked and then dropped where the stops of the acts are paired
pub acts_paired : (acts : List Act) → list_all (λ (act : Act). is_pick_then_drop (kinds_of (stops_of acts) act.job)) acts ≡ are_paired (stops_of acts)
acts_paired acts =
    let test : Stop → Bool = λ (one : Stop). is_pick_then_drop (kinds_of (stops_of acts) one.job) in
    sym (list_all-map test stop_of (map task_of acts) ∙ list_all-map (λ (task : Task). test (stop_of task)) task_of acts)

-- no act is in order; of some acts the places rise
pub none_in_order : (acts : List Act) (end : ℕ) → (length acts == 0) ≡ true → are_in_order acts end ≡ true
none_in_order [] end none = refl
none_in_order (act ∷ acts) end none = absurd (let h = eqb-true (length (act ∷ acts)) 0 none in omega arith)

pub some_in_order : (acts : List Act) (end : ℕ) → (length acts == 0) ≡ false → is_rising 0 acts end ≡ are_in_order acts end
some_in_order [] end some = absurd (eqb-false 0 0 some refl)
some_in_order (act ∷ acts) end some = refl
