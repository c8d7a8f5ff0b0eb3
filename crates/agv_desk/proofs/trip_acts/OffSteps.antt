-- An act of a vehicle's trip goes, as the trip ends: its action is no more, and its job is done or stops.
use Rattle.std.proofs.Common.{◌≡◌, ◌≢◌, ◌+◌, ◌≤◌, ◌&&◌, ℕ, zero, suc, true, false, List, ◌∷◌, Some, nat_eq, true≢false, arith, inl, inr, refl, sym, ap, subst, ◌∙◌}
use Rattle.std.specs.Cmp.Lexicographic.{pointwise}
use Rattle.std.specs.FinMap as finite
use Rattle.std.specs.List.{slice_get}
use Rattle.agv_header.specs.KeyOrder.{key_cmp-total, key_cmp-IsAntisymmetric}
use Rattle.agv_header.specs.declared.key.VehicleKey.{VehicleKey}
use Rattle.agv_layout.specs.Layout.{Layout, IsStation}
use Rattle.agv_layout.specs.declared.station.StationSite.{StationSite}
use Rattle.agv_message_core.specs.declared.order.ActKind.TheVariants.{Drop}
use Rattle.agv_stock.specs.Phase.{is_live}
use Rattle.agv_stock.specs.Rooms.{is_at, is_on}
use Rattle.agv_stock.specs.declared.job.Phase.{Phase}
use Rattle.agv_stock.specs.declared.job.Phase.TheVariants as phase
use Rattle.agv_stock.specs.declared.place.Place.{Place}
use Rattle.agv_stock.specs.declared.place.Place.TheVariants as place
use Rattle.agv_world_core.specs.StockInvariant.{ActionView, IsKnownPlace, Jobs, Places, to_pick, is_to_pick}
use Rattle.agv_world_core.specs.Questions.{is_live_to, loads_on_vehicle}
use Rattle.agv_world_core.specs.declared.row.JobRow.{JobRow}
use Rattle.agv_world_core.proofs.lists.Orders.{names_total, names_apart}
use Rattle.agv_desk.proofs.trip_acts.ActionViews.{due-cons}
use Rattle.agv_desk.proofs.outcomes.Known.{same_some}
use Rattle.agv_desk.proofs.stock.Shifts.{live_if_riding, shift_kept}
use Rattle.agv_desk.proofs.trip_acts.WalkSteps.{Fits, Now, alone_of, an_action_view, capacity_now, fits_here, own, owned, there, with_action_views, with_here}
use Rattle.agv_desk.proofs.lists.Writes.{IsWritten, is_written, is_written_already, one_if, same_or_other}

module _ (layout : Layout) (carries : VehicleKey → List ActionView) (capacity : VehicleKey → ℕ) (key : VehicleKey) where
  abbrev With : List ActionView → Places → Jobs → Type 0
  With carried places jobs = Now layout carries capacity key carried places jobs

  abbrev at_all : List ActionView → VehicleKey → List ActionView
  at_all carried = with_action_views carries key carried

  -- an action less, that is no drop, or a finished one
  pub less : (one : ActionView) (rest : List ActionView) (places : Places) (jobs : Jobs) → (one.kind ≡ Drop → one.finished ≡ true) → With (one ∷ rest) places jobs → With rest places jobs
  less one rest places jobs over now = record {
    few_loads = now.few_loads;
    few_jobs = now.few_jobs;
    loads_named = now.loads_named;
    jobs_named = now.jobs_named;
    known_places = now.known_places;
    known = now.known;
    room = now.room;
    within_capacity = λ other. elim (same_or_other key_cmp-total key_cmp-IsAntisymmetric other key) [
      | inl same ↦ subst (λ v. loads_on_vehicle places v + to_pick (at_all rest v) ≤ capacity v) (sym same)
          (subst (λ xs. loads_on_vehicle places key + to_pick xs ≤ capacity key) (sym (with_here carries key rest)) (fewer (one_if (is_to_pick one)) (to_pick (one ∷ rest)) (to_pick rest) _ _ (due-cons one rest) (capacity_now layout carries capacity key (one ∷ rest) places jobs now)))
      | inr apart ↦ subst (λ xs. loads_on_vehicle places other + to_pick xs ≤ capacity other) (there layout carries capacity key rest (one ∷ rest) other apart) (now.within_capacity other)
    ];
    one_job = now.one_job;
    waiting = now.waiting;
    riding = λ job row at rides.
        let t = now.riding job row at rides in
        elim (same_or_other key_cmp-total key_cmp-IsAntisymmetric t.key key) [
          | inl same ↦
              let z = later t.k t.action_view (owned layout carries capacity key (one ∷ rest) t.k t.action_view (subst (λ b. slice_get (at_all (one ∷ rest) b) t.k ≡ Some t.action_view) same t.here)) t.drop t.undone in
              record { key = key; k = z.0; action_view = t.action_view; here = own layout carries capacity key rest z.0 t.action_view z.1; drop = t.drop; of_job = t.of_job; undone = t.undone }
          | inr apart ↦
              record { key = t.key; k = t.k; action_view = t.action_view; here = subst (λ xs. slice_get xs t.k ≡ Some t.action_view) (there layout carries capacity key rest (one ∷ rest) t.key apart) t.here; drop = t.drop; of_job = t.of_job; undone = t.undone }
        ];
    carried = λ other k action_view at. let h = back other k action_view at in now.carried other h.0 action_view h.1;
    once = λ one_key other i k action_view more at further e.
        let same : one_key ≡ other = (let h = back one_key i action_view at in let q = back other k more further in (now.once one_key other h.0 q.0 action_view more h.1 q.1 e).0) in
        (same, λ f. same_index one_key i k action_view more at (subst (λ v. slice_get (at_all rest v) k ≡ Some more) (sym same) further) e f);
  }
    where
      fewer : (t all d n c : ℕ) → all ≡ t + d → n + all ≤ c → n + d ≤ c
      fewer t all d n c e h = omega (arith, e, h)

      later : (k : ℕ) (action_view : ActionView) → slice_get (one ∷ rest) k ≡ Some action_view → action_view.kind ≡ Drop → action_view.finished ≡ false → (i : ℕ) × (slice_get rest i ≡ Some action_view)
      later zero action_view at e f = let same : one ≡ action_view = same_some at in absurd (true≢false (sym (over (ap (λ (x : ActionView). x.kind) same ∙ e)) ∙ ap (λ (x : ActionView). x.finished) same ∙ f))
      later (suc k) action_view at e f = (k, at)

      back : (other : VehicleKey) (k : ℕ) (action_view : ActionView) → slice_get (at_all rest other) k ≡ Some action_view → (i : ℕ) × (slice_get (at_all (one ∷ rest) other) i ≡ Some action_view)
      back other k action_view at = elim (same_or_other key_cmp-total key_cmp-IsAntisymmetric other key) [
        | inl e ↦ (suc k, subst (λ v. slice_get (at_all (one ∷ rest) v) (suc k) ≡ Some action_view) (sym e) (own layout carries capacity key (one ∷ rest) (suc k) action_view (owned layout carries capacity key rest k action_view (subst (λ v. slice_get (at_all rest v) k ≡ Some action_view) e at))))
        | inr n ↦ (k, subst (λ xs. slice_get xs k ≡ Some action_view) (there layout carries capacity key (one ∷ rest) rest other n) at)
      ]

      suc_same : (i k : ℕ) → suc i ≡ suc k → i ≡ k
      suc_same i k e = omega (arith, e)

      same_index : (other : VehicleKey) (i k : ℕ) (action_view more : ActionView) → slice_get (at_all rest other) i ≡ Some action_view → slice_get (at_all rest other) k ≡ Some more → action_view.job ≡ more.job → action_view.kind ≡ more.kind → i ≡ k
      same_index other i k action_view more at further e f = elim (same_or_other key_cmp-total key_cmp-IsAntisymmetric other key) [
        | inl q ↦
            let h = own layout carries capacity key (one ∷ rest) (suc i) action_view (owned layout carries capacity key rest i action_view (subst (λ v. slice_get (at_all rest v) i ≡ Some action_view) q at)) in
            let g = own layout carries capacity key (one ∷ rest) (suc k) more (owned layout carries capacity key rest k more (subst (λ v. slice_get (at_all rest v) k ≡ Some more) q further)) in
            suc_same i k ((now.once key key (suc i) (suc k) action_view more h g e).1 f)
        | inr n ↦
            (now.once other other i k action_view more (subst (λ xs. slice_get xs i ≡ Some action_view) (there layout carries capacity key (one ∷ rest) rest other n) at) (subst (λ xs. slice_get xs k ≡ Some more) (there layout carries capacity key (one ∷ rest) rest other n) further) e).1 f
      ]

  -- a drop that was not finished goes, as the only action of its job, which is no longer live; its load stays or goes to a place that takes none of another vehicle
  off_step : (rest : List ActionView) (job load station : List ℕ) (places places_after : Places) (jobs : Jobs) (row : JobRow) (next : Phase) (from to : Place)
      → ((k : ℕ) (one : ActionView) → slice_get rest k ≡ Some one → one.job ≡ job → ⊥)
      → finite.get jobs job ≡ Some row → next ≢ phase.Waiting → next ≢ phase.Riding
      → finite.get places row.load ≡ Some from → IsWritten places row.load to places_after → IsKnownPlace layout to
      → ((name : List ℕ) → one_if (is_at name to) + one_if (is_live_to name (record row { phase = next })) ≤ one_if (is_at name from) + one_if (is_live_to name row))
      → ((other : VehicleKey) → one_if (is_on other to) ≤ one_if (is_on other from))
      → With (an_action_view Drop job load station false ∷ rest) places jobs
      → With rest places_after (finite.insert jobs job (record row { phase = next }))
  off_step rest job load station places places_after jobs row next from to none here not_waiting not_riding place_was place_is known_place room off now =
      let old : ActionView = an_action_view Drop job load station false in
      let olds : List ActionView = old ∷ rest in
      let h : Fits places key old row = fits_here layout carries capacity key olds places jobs now 0 old refl row here in
      shift_kept layout (with_action_views carries key olds) capacity places jobs now (record {
        key = key;
        before = olds;
        after = rest;
        carries_after = with_action_views carries key rest;
        was = with_here carries key olds;
        now = with_here carries key rest;
        there = there layout carries capacity key olds rest;
        job = job;
        row = row;
        next = next;
        jobs_after = finite.insert jobs job (record row { phase = next });
        job_was = here;
        job_is = is_written names_total names_apart jobs job (record row { phase = next });
        was_live = live_if_riding row.phase h.stands;
        not_waiting = not_waiting;
        from = from;
        to = to;
        places_after = places_after;
        place_was = place_was;
        place_is = place_is;
        known_place = known_place;
        alone = alone_of layout carries capacity key olds places jobs now 0 old refl;
        old = λ k one at other. (suc k, at);
        keeps = λ k one at kind other. kept k one at other;
        mine = λ k one at same. absurd (none k one at same);
        apart = λ i k one more at further e f. suc_same i k ((now.once key key (suc i) (suc k) one more (own layout carries capacity key olds (suc i) one at) (own layout carries capacity key olds (suc k) more further) e).1 f);
        rides = λ e. absurd (not_riding e);
        room = room;
        within_capacity = off_capacity _ _ _ _ _ _ (due-cons old rest) (capacity_now layout carries capacity key olds places jobs now) (off key);
        off = λ other apart. off other;
      })
    where
      kept : (k : ℕ) (one : ActionView) → slice_get (an_action_view Drop job load station false ∷ rest) k ≡ Some one → one.job ≢ job → (i : ℕ) × (slice_get rest i ≡ Some one)
      kept zero one at other = absurd (other (ap (λ (x : ActionView). x.job) (sym (same_some at))))
      kept (suc k) one at other = (k, at)

      suc_same : (i k : ℕ) → suc i ≡ suc k → i ≡ k
      suc_same i k e = omega (arith, e)

      off_capacity : (all d n c p o : ℕ) → all ≡ 0 + d → n + all ≤ c → p ≤ o → p + d + n ≤ c + o
      off_capacity all d n c p o e h g = omega (arith, e, h, g)

  -- a drop goes that is not finished, and its job stops
  pub stop_step : (rest : List ActionView) (job load station : List ℕ) (places : Places) (jobs : Jobs) (row : JobRow)
      → ((k : ℕ) (one : ActionView) → slice_get rest k ≡ Some one → one.job ≡ job → ⊥) → finite.get jobs job ≡ Some row
      → With (an_action_view Drop job load station false ∷ rest) places jobs → With rest places (finite.insert jobs job (record row { phase = phase.Stopped }))
  stop_step rest job load station places jobs row none here now =
      let place = (now.known job row here).load in
      off_step rest job load station places places jobs row phase.Stopped place.0 place.0 none here (λ e. cc) (λ e. cc)
      place.1 (is_written_already names_total names_apart places row.load place.0 place.1) (now.known_places row.load place.0 place.1)
      (λ name. omega arith) (λ other. omega arith) now

  -- a drop becomes finished and goes, and its job is done
  pub done_step : (rest : List ActionView) (job load station : List ℕ) (places : Places) (jobs : Jobs) (row : JobRow)
      → ((k : ℕ) (one : ActionView) → slice_get rest k ≡ Some one → one.job ≡ job → ⊥) → finite.get jobs job ≡ Some row
      → With (an_action_view Drop job load station false ∷ rest) places jobs
      → With rest (finite.insert places load (place.Station station)) (finite.insert jobs job (record row { phase = phase.Done }))
  done_step rest job load station places jobs row none here now =
      let old : ActionView = an_action_view Drop job load station false in
      let h : Fits places key old row = fits_here layout carries capacity key (old ∷ rest) places jobs now 0 old refl row here in
      let was = (now.known job row here).load in
      let after : Places = finite.insert places load (place.Station station) in
      off_step rest job load station places after jobs row phase.Done was.0 (place.Station station) none here (λ e. cc) (λ e. cc)
      was.1 (subst (λ name. IsWritten places name (place.Station station) after) (sym h.load) (is_written names_total names_apart places load (place.Station station)))
      (subst (λ name. (site : StationSite) × IsStation layout name site) h.station (now.known job row here).target)
      (λ name. drop_room _ _ _ _ (ap (λ target. one_if (pointwise nat_eq target name)) (sym h.station)) (ap (λ f. one_if (is_live f && pointwise nat_eq row.target name)) h.stands))
      (λ other. omega arith) now
    where
      drop_room : (x y z o : ℕ) → x ≡ y → z ≡ y → x + 0 ≤ o + z
      drop_room x y z o e f = omega (arith, e, f)
