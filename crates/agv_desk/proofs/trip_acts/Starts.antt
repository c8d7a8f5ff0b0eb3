-- An order is begun: its vehicle carries the actions of the new trip, its jobs ride, and the stock invariant holds as before.
use Rattle.std.proofs.Common.{◌≡◌, ◌≢◌, ◌⊎◌, ◌+◌, ◌≤◌, ◌&&◌, ℕ, zero, suc, Bool, true, false, not, List, [], ◌∷◌, count_by, filter_map, map, Some, true≢false, arith, inl, inr, refl, sym, ap, subst, ◌∙◌}
use Rattle.std.specs.FinMap as finite
use Rattle.std.specs.List.{slice_get}
use Rattle.std.proofs.lemmas.List.Sums.{sum_by-cons}
use Rattle.agv_header.specs.KeyOrder.{key_cmp-total, key_cmp-IsAntisymmetric}
use Rattle.agv_header.specs.declared.key.VehicleKey.{VehicleKey}
use Rattle.agv_message_core.specs.declared.order.ActKind.{ActKind}
use Rattle.agv_message_core.specs.declared.order.ActKind.TheVariants.{Pick, Drop}
use Rattle.agv_order.specs.Statuses.{is_finished}
use Rattle.agv_order.specs.StopPlaces.{ArePaired, IsAt, IsPickedThenDropped, stop_picks}
use Rattle.agv_order.specs.Stops.{is_drop}
use Rattle.agv_order.specs.declared.act.Act.{Act}
use Rattle.agv_order.specs.declared.stop.Stop.{Stop}
use Rattle.agv_stock.specs.Phase.{is_live}
use Rattle.agv_stock.specs.declared.job.Phase.{Phase}
use Rattle.agv_stock.specs.declared.job.Phase.TheVariants as phase
use Rattle.agv_stock.specs.declared.place.Place.TheVariants as place
use Rattle.agv_world_core.specs.Questions.{loads_on_vehicle}
use Rattle.agv_world_core.specs.StockInvariant.{StockInvariant, ActionView, HasStockInvariant, IsCarried, IsJobOn, Jobs, Places, ActStands, capacity_of, to_pick, action_view, action_views, action_views_of, stored}
use Rattle.agv_world_core.specs.Lawful.{station_for}
use Rattle.agv_world_core.specs.TableChanges.{written}
use Rattle.agv_world_core.specs.Worlds.{World}
use Rattle.agv_world_core.specs.declared.row.JobRow.{JobRow}
use Rattle.agv_desk.proofs.trip_acts.Beginnings.{Begun, begun_all, none_begun, rides, rides_at}
use Rattle.agv_desk.proofs.trip_acts.ActionViews.{due-cons, stop_by}
use Rattle.agv_desk.proofs.trip_acts.FitStops.{one_place}
use Rattle.agv_desk.proofs.outcomes.Known.{none_some, same_some}
use Rattle.agv_desk.proofs.trip_acts.OrderJobs.{Begins, WaitsIn, begins}
use Rattle.agv_desk.proofs.trip_acts.WalkSteps.{station_still, with_action_views, with_here, with_there}
use Rattle.agv_desk.proofs.lists.Writes.{one_if, same_or_other}

-- ---- acts, their stops and their actions

stop_at : (acts : List Act) (k : ℕ) (act : Act) → slice_get acts k ≡ Some act → slice_get (map stop_by acts) k ≡ Some (stop_by act)
stop_at [] k act at = none_some at
stop_at (first ∷ acts) zero act at = ap (λ (a : Act). Some (stop_by a)) (same_some at)
stop_at (first ∷ acts) (suc k) act at = stop_at acts k act at

action_view_at : (acts : List Act) (k : ℕ) (act : Act) → slice_get acts k ≡ Some act → slice_get (action_views acts) k ≡ Some (action_view act)
action_view_at [] k act at = none_some at
action_view_at (first ∷ acts) zero act at = ap (λ (a : Act). Some (action_view a)) (same_some at)
action_view_at (first ∷ acts) (suc k) act at = action_view_at acts k act at

act_of_action_view : (acts : List Act) (k : ℕ) (one : ActionView) → slice_get (action_views acts) k ≡ Some one → (act : Act) × (slice_get acts k ≡ Some act) × (action_view act ≡ one)
act_of_action_view [] k one at = none_some at
act_of_action_view (first ∷ acts) zero one at = (first, refl, same_some at)
act_of_action_view (first ∷ acts) (suc k) one at = act_of_action_view acts k one at

act_of_stop : (acts : List Act) (k : ℕ) (stop : Stop) → slice_get (map stop_by acts) k ≡ Some stop → (act : Act) × (slice_get acts k ≡ Some act) × (stop_by act ≡ stop)
act_of_stop [] k stop at = none_some at
act_of_stop (first ∷ acts) zero stop at = (first, refl, same_some at)
act_of_stop (first ∷ acts) (suc k) stop at = act_of_stop acts k stop at

-- at most as many loads are still to be picked as there are picks
due_picks : (acts : List Act) → to_pick (action_views acts) ≤ count_by stop_picks (map stop_by acts)
due_picks [] = omega arith
due_picks (act ∷ acts) =
    counted (is_drop act.kind) (is_finished act.status) _ _ _ _ (due-cons (action_view act) (action_views acts)) (sum_by-cons (λ (s : Stop). one_if (stop_picks s)) (stop_by act) (map stop_by acts)) (due_picks acts)
  where
    counted : (drop over : Bool) (all d more e : ℕ) → all ≡ one_if (not drop && not over) + d → more ≡ one_if (not drop) + e → d ≤ e → all ≤ more
    counted true over all d more e f g h = omega (arith, f, g, h)
    counted false true all d more e f g h = omega (arith, f, g, h)
    counted false false all d more e f g h = omega (arith, f, g, h)

-- the job of an action does not wait
begun_by : (places : Places) (key : VehicleKey) (load station : List ℕ) (kind : ActKind) (finished : Bool) (stage : Phase) → ActStands places key load station kind finished stage → stage ≢ phase.Waiting
begun_by places key load station Pick false stage stands e = let rides_now = stands.0 in cc
begun_by places key load station Pick true stage stands e = stands.0 e
begun_by places key load station Drop false stage stands e = cc
begun_by places key load station Drop true stage stands e = cc

-- how an action of the new trip stands
stands_new : (places : Places) (key : VehicleKey) (kind : ActKind) (load station : List ℕ) (finished : Bool) (row : JobRow) → finished ≡ false → row.load ≡ load → station_for kind row ≡ station
    → finite.get places row.load ≡ Some (place.Station row.origin) → ActStands places key load station kind finished phase.Riding
stands_new places key Pick load station false row not_over same is at = (refl, ap (finite.get places) (sym same) ∙ at ∙ ap (λ name. Some (place.Station name)) is)
stands_new places key Drop load station false row not_over same is at = refl
stands_new places key kind load station true row not_over same is at = absurd (true≢false not_over)

module _ (world : World) (stock : HasStockInvariant world) where
  -- a job that waits is no action
  pub untied : (job : List ℕ) → WaitsIn world job → (other : VehicleKey) (k : ℕ) (one : ActionView) → slice_get (action_views_of world other) k ≡ Some one → one.job ≢ job
  untied job waits other k one at same =
      let c = stock.carried other k one at in
      let row : c.row ≡ waits.row = same_some (sym c.here ∙ ap (finite.get world.jobs) same ∙ waits.here) in
      begun_by world.places other one.load one.station one.kind one.finished c.row.phase c.stands (ap (λ (r : JobRow). r.phase) row ∙ waits.waiting)

  module _ (key : VehicleKey) (acts : List Act) (stops : List Stop) (idle : action_views_of world key ≡ []) (made : map stop_by acts ≡ stops) (can : ArePaired stops)
      (begin : (k : ℕ) (act : Act) → slice_get acts k ≡ Some act → Begins world act)
      (wait : (k : ℕ) (stop : Stop) → slice_get stops k ≡ Some stop → WaitsIn world stop.job)
      (fits : loads_on_vehicle world.places key + count_by stop_picks stops ≤ capacity_of world key) where
    Picks : List ℕ → Type 0
    Picks job = (k : ℕ) × IsAt stops job Pick k

    abbrev jobs_after : Jobs
    jobs_after = written world.jobs (filter_map (begins world) stops)

    abbrev carries_after : VehicleKey → List ActionView
    carries_after = with_action_views (action_views_of world) key (action_views acts)

    begun : Begun world Picks jobs_after
    unfolding Picks
    begun = begun_all world Picks stops world.jobs wait (λ k job at. (k, at)) (none_begun world Picks)

    at_stop : (k : ℕ) (act : Act) → slice_get acts k ≡ Some act → IsAt stops act.job act.kind k
    at_stop k act at = subst (λ xs. slice_get xs k ≡ Some (stop_by act)) made (stop_at acts k act at)

    action_view_case : (other : VehicleKey) (k : ℕ) (one : ActionView) → slice_get (carries_after other) k ≡ Some one
        → ((other ≡ key) × (slice_get (action_views acts) k ≡ Some one)) ⊎ ((other ≢ key) × (slice_get (action_views_of world other) k ≡ Some one))
    action_view_case other k one at = elim (same_or_other key_cmp-total key_cmp-IsAntisymmetric other key) [
      | inl same ↦ inl (same, subst (λ xs. slice_get xs k ≡ Some one) (ap carries_after same ∙ with_here (action_views_of world) key (action_views acts)) at)
      | inr apart ↦ inr (apart, subst (λ xs. slice_get xs k ≡ Some one) (with_there (action_views_of world) key (action_views acts) other apart) at)
    ]

    -- the job of an act rides now
    rides_now : (k : ℕ) (act : Act) (at : slice_get acts k ≡ Some act) (row : JobRow) → finite.get world.jobs act.job ≡ Some row → finite.get jobs_after act.job ≡ Some (rides row)
    rides_now k act at row here =
        let served : IsPickedThenDropped stops act.job = can k (stop_by act) (at_stop k act at) in
        rides_at world act.job row here stops world.jobs served.0 served.3.0

    new_carried : (k : ℕ) (act : Act) → slice_get acts k ≡ Some act → IsCarried world.places jobs_after key (action_view act)
    new_carried k act at =
        let b = begin k act at in
        let w : WaitsIn world act.job = wait k (stop_by act) (at_stop k act at) in
        let same : w.row ≡ b.row = same_some (sym w.here ∙ b.here) in
        let stood = stock.waiting act.job b.row b.here (ap (λ (r : JobRow). r.phase) (sym same) ∙ w.waiting) in
        record {
          row = rides b.row;
          here = rides_now k act at b.row b.here;
          load = b.load;
          station = station_still act.kind b.row phase.Riding ∙ b.station;
          stands = stands_new world.places key act.kind act.load act.station (is_finished act.status) b.row (ap is_finished b.waiting) b.load b.station stood;
        }

    -- a live job was live before
    was_live : (job : List ℕ) (row : JobRow) → finite.get jobs_after job ≡ Some row → is_live row.phase ≡ true → (old : JobRow) × (finite.get world.jobs job ≡ Some old) × (is_live old.phase ≡ true) × (old.load ≡ row.load)
    was_live job row at live = elim (begun.each job) [
      | inl same ↦ (row, sym same ∙ at, live, refl)
      | inr has ↦ (has.row, has.was, ap is_live has.waited, ap (λ (r : JobRow). r.load) (same_some (sym has.is ∙ at)))
    ]

    new_index : (i k : ℕ) (one more : ActionView) → slice_get (action_views acts) i ≡ Some one → slice_get (action_views acts) k ≡ Some more → one.job ≡ more.job → one.kind ≡ more.kind → i ≡ k
    new_index i k one more at further same kinds =
        let a = act_of_action_view acts i one at in
        let b = act_of_action_view acts k more further in
        let here : IsAt stops a.0.job a.0.kind i = at_stop i a.0 a.1 in
        let there : IsAt stops b.0.job b.0.kind k = at_stop k b.0 b.1 in
        let job : b.0.job ≡ a.0.job = ap (λ (x : ActionView). x.job) b.2 ∙ sym same ∙ ap (λ (x : ActionView). x.job) (sym a.2) in
        let kind : b.0.kind ≡ a.0.kind = ap (λ (x : ActionView). x.kind) b.2 ∙ sym kinds ∙ ap (λ (x : ActionView). x.kind) (sym a.2) in
        one_place stops a.0.job a.0.kind i k (can i (stop_by a.0) here) here (there ∙ (λ j. Some (record { kind = kind j; job = job j })))

    -- the action of a new trip is of a job that waited
    new_waits : (k : ℕ) (one : ActionView) → slice_get (action_views acts) k ≡ Some one → WaitsIn world one.job
    new_waits k one at =
        let a = act_of_action_view acts k one at in
        subst (λ (x : ActionView). WaitsIn world x.job) a.2 (wait k (stop_by a.0) (at_stop k a.0 a.1))

    pub starts : StockInvariant world.layout carries_after (capacity_of world) world.places jobs_after
    unfolding Picks
    starts = record {
      few_loads = stock.few_loads;
      few_jobs = subst (λ n. n ≤ 1000000) (sym begun.few) stock.few_jobs;
      loads_named = stock.loads_named;
      jobs_named = λ job row at. elim (begun.each job) [
        | inl same ↦ stock.jobs_named job row (sym same ∙ at)
        | inr has ↦ stock.jobs_named job has.row has.was
      ];
      known_places = stock.known_places;
      known = λ job row at. elim (begun.each job) [
        | inl same ↦ stock.known job row (sym same ∙ at)
        | inr has ↦
            let k = stock.known job has.row has.was in
            subst (IsJobOn world.layout world.places) (same_some (sym has.is ∙ at)) (record { load = k.load; origin = k.origin; target = k.target })
      ];
      room = λ station site at. subst (λ n. stored world.places station + n ≤ site.capacity) (sym (begun.reserved_by station)) (stock.room station site at);
      within_capacity = λ other. elim (same_or_other key_cmp-total key_cmp-IsAntisymmetric other key) [
        | inl same ↦
            subst (λ v. loads_on_vehicle world.places v + to_pick (carries_after v) ≤ capacity_of world v) (sym same)
            (subst (λ xs. loads_on_vehicle world.places key + to_pick xs ≤ capacity_of world key) (sym (with_here (action_views_of world) key (action_views acts)))
            (board _ _ _ _ (subst (λ ss. to_pick (action_views acts) ≤ count_by stop_picks ss) made (due_picks acts)) fits))
        | inr apart ↦ subst (λ xs. loads_on_vehicle world.places other + to_pick xs ≤ capacity_of world other) (sym (with_there (action_views_of world) key (action_views acts) other apart)) (stock.within_capacity other)
      ];
      one_job = λ one other row further at there live too same.
          let a = was_live one row at live in
          let b = was_live other further there too in
          stock.one_job one other a.0 b.0 a.1 b.1 a.2 b.2 (a.3 ∙ same ∙ sym b.3);
      waiting = λ job row at waits. elim (begun.each job) [
        | inl same ↦ stock.waiting job row (sym same ∙ at) waits
        | inr has ↦ absurd (not_riding row has.row (same_some (sym has.is ∙ at)) waits)
      ];
      riding = λ job row at rides_on. elim (begun.each job) [
        | inl same ↦
            let t = stock.riding job row (sym same ∙ at) rides_on in
            elim (same_or_other key_cmp-total key_cmp-IsAntisymmetric t.key key) [
              | inl own ↦ none_some (subst (λ xs. slice_get xs t.k ≡ Some t.action_view) (ap (action_views_of world) own ∙ idle) t.here)
              | inr apart ↦ record {
                key = t.key;
                k = t.k;
                action_view = t.action_view;
                here = subst (λ xs. slice_get xs t.k ≡ Some t.action_view) (sym (with_there (action_views_of world) key (action_views acts) t.key apart)) t.here;
                drop = t.drop;
                of_job = t.of_job;
                undone = t.undone;
              }
            ]
        | inr has ↦
            let served : IsPickedThenDropped stops job = can has.picked.0 (record { kind = Pick; job = job }) has.picked.1 in
            let a = act_of_stop acts served.1 (record { kind = Drop; job = job }) (subst (λ xs. IsAt xs job Drop served.1) (sym made) served.4.0) in
            record {
              key = key;
              k = served.1;
              action_view = action_view a.0;
              here = subst (λ xs. slice_get xs served.1 ≡ Some (action_view a.0)) (sym (with_here (action_views_of world) key (action_views acts))) (action_view_at acts served.1 a.0 a.1);
              drop = ap (λ (s : Stop). s.kind) a.2;
              of_job = ap (λ (s : Stop). s.job) a.2;
              undone = ap is_finished (begin served.1 a.0 a.1).waiting;
            }
      ];
      carried = λ other k one at. elim (action_view_case other k one at) [
        | inl new ↦
            let a = act_of_action_view acts k one new.1 in
            subst (λ v. IsCarried world.places jobs_after v one) (sym new.0) (subst (IsCarried world.places jobs_after key) a.2 (new_carried k a.0 a.1))
        | inr old ↦
            let c = stock.carried other k one old.1 in
            record {
              row = c.row;
              here = elim (begun.each one.job) [
                | inl same ↦ same ∙ c.here
                | inr has ↦ absurd (untied one.job (record { row = has.row; here = has.was; waiting = has.waited }) other k one old.1 refl)
              ];
              load = c.load;
              station = c.station;
              stands = c.stands;
            }
      ];
      once = λ one other i k e more at further same. elim (action_view_case one i e at) [
        | inl new ↦ elim (action_view_case other k more further) [
          | inl too ↦ (new.0 ∙ sym too.0, λ kinds. new_index i k e more new.1 too.1 same kinds)
          | inr old ↦ absurd (untied e.job (new_waits i e new.1) other k more old.1 (sym same))
        ]
        | inr old ↦ elim (action_view_case other k more further) [
          | inl new ↦ absurd (untied more.job (new_waits k more new.1) one i e old.1 same)
          | inr too ↦ stock.once one other i k e more old.1 too.1 same
        ]
      ];
    }
      where
        board : (n p q c : ℕ) → p ≤ q → n + q ≤ c → n + p ≤ c
        board n p q c h g = omega (arith, h, g)

        not_riding : (row old : JobRow) → rides old ≡ row → row.phase ≡ phase.Waiting → ⊥
        not_riding row old same waits = absurd (apart (ap (λ (r : JobRow). r.phase) same ∙ waits))
          where
            apart : phase.Riding ≡ phase.Waiting → ⊥
            apart e = cc
