-- One act of a vehicle's trip is carried out: its action, its load and its job change together, and the stock invariant holds as before.
use Rattle.std.proofs.Common.{◌≡◌, ◌≢◌, ◌+◌, ◌≤◌, ◌&&◌, ℕ, Bool, true, false, cond, List, ◌∷◌, Some, is_eq, nat_eq, true≢false, arith, inl, inr, refl, sym, ap, subst, ◌∙◌}
use Rattle.std.specs.Cmp.{tied_itself}
use Rattle.std.specs.Cmp.Lexicographic.{pointwise}
use Rattle.std.specs.FinMap as finite
use Rattle.std.specs.List.{slice_get}
use Rattle.std.specs.Ordering.{eq_by_cmp}
use Rattle.agv_header.specs.Key.{key_cmp}
use Rattle.agv_header.specs.KeyOrder.{key_cmp-ties, key_cmp-total, key_cmp-IsAntisymmetric, key_eq}
use Rattle.agv_header.specs.declared.key.VehicleKey.{VehicleKey}
use Rattle.agv_layout.specs.Layout.{Layout, IsStation}
use Rattle.agv_layout.specs.declared.station.StationSite.{StationSite}
use Rattle.agv_message_core.specs.declared.order.ActKind.{ActKind}
use Rattle.agv_message_core.specs.declared.order.ActKind.TheVariants.{Pick, Drop}
use Rattle.agv_stock.specs.Phase.{is_live}
use Rattle.agv_stock.specs.declared.job.Phase.{Phase}
use Rattle.agv_stock.specs.declared.job.Phase.TheVariants as phase
use Rattle.agv_stock.specs.declared.place.Place.TheVariants as place
use Rattle.agv_world_core.specs.Questions.{loads_on_vehicle}
use Rattle.agv_world_core.specs.StockInvariant.{ActionView, StockInvariant, IsCarried, Jobs, Places, ActStands, to_pick}
use Rattle.agv_world_core.specs.Lawful.{station_for}
use Rattle.agv_world_core.specs.declared.row.JobRow.{JobRow}
use Rattle.agv_world_core.proofs.lists.Orders.{names_total, names_apart}
use Rattle.agv_desk.proofs.trip_acts.ActionViews.{IsPicked, Swap, swap_here, swap_whole, whole}
use Rattle.agv_desk.proofs.outcomes.Known.{same_some}
use Rattle.agv_desk.proofs.stock.Shifts.{live_if_riding, shift_kept}
use Rattle.agv_desk.proofs.lists.Writes.{IsWritten, is_written, is_written_already, one_if, untied}

-- ---- words

abbrev pub an_action_view : ActKind → List ℕ → List ℕ → List ℕ → Bool → ActionView
an_action_view kind job load station finished = record { kind = kind; job = job; load = load; station = station; finished = finished }

pub pick_drop : {A : Type 0} (kind : ActKind) → kind ≡ Pick → kind ≡ Drop → A
pick_drop kind e f = cc

not_drop : (kind : ActKind) → (kind ≡ Drop → ⊥) → kind ≡ Pick
not_drop Pick n = refl
not_drop Drop n = absurd (n refl)

-- ---- the actions of one vehicle among those of all

abbrev pub with_action_views : (VehicleKey → List ActionView) → VehicleKey → List ActionView → VehicleKey → List ActionView
with_action_views carries key carried other = cond (eq_by_cmp key_cmp other key) carried (carries other)

pub with_here : (carries : VehicleKey → List ActionView) (key : VehicleKey) (carried : List ActionView) → with_action_views carries key carried key ≡ carried
with_here carries key carried = ap (λ o. cond (is_eq o) carried (carries key)) (tied_itself key_cmp-total key)

pub with_there : (carries : VehicleKey → List ActionView) (key : VehicleKey) (carried : List ActionView) (other : VehicleKey) → other ≢ key → with_action_views carries key carried other ≡ carries other
with_there carries key carried other apart = ap (λ b. cond b carried (carries other)) (untied key_cmp-total key_cmp-IsAntisymmetric other key apart)

key_itself : (key : VehicleKey) → key_eq key key ≡ true
key_itself key = key_cmp-ties key key ∙ ap is_eq (tied_itself key_cmp-total key)

key_other : (key other : VehicleKey) → other ≢ key → key_eq key other ≡ false
key_other key other apart = key_cmp-ties key other ∙ untied key_cmp-total key_cmp-IsAntisymmetric key other (λ e. apart (sym e))

-- ---- how an action stands with its job's row

pub record Fits (places : Places) (key : VehicleKey) (one : ActionView) (row : JobRow) : Type 0 where
  pub load : row.load ≡ one.load
  pub station : station_for one.kind row ≡ one.station
  pub stands : ActStands places key one.load one.station one.kind one.finished row.phase

fits_row : (places : Places) (jobs : Jobs) (key : VehicleKey) (one : ActionView) (row : JobRow) → finite.get jobs one.job ≡ Some row → IsCarried places jobs key one → Fits places key one row
fits_row places jobs key one row here carried =
    subst (Fits places key one) (same_some (sym carried.here ∙ here)) (record { load = carried.load; station = carried.station; stands = carried.stands })

-- a new phase changes no station
pub station_still : (kind : ActKind) (row : JobRow) (next : Phase) → station_for kind (record row { phase = next }) ≡ station_for kind row
station_still Pick row next = refl
station_still Drop row next = refl

-- a drop stands alike wherever the load is
drop_stands : (places after : Places) (key : VehicleKey) (load station : List ℕ) (kind : ActKind) (finished : Bool) (next : Phase) → (kind ≡ Pick → ⊥)
    → ActStands places key load station kind finished next → ActStands after key load station kind finished next
drop_stands places after key load station Pick finished next n stands = absurd (n refl)
drop_stands places after key load station Drop false next n stands = stands
drop_stands places after key load station Drop true next n stands = stands

-- a finished pick stands where its job is done
pick_done : (places : Places) (key : VehicleKey) (load station : List ℕ) (kind : ActKind) (finished : Bool) → kind ≡ Pick → finished ≡ true → ActStands places key load station kind finished phase.Done
pick_done places key load station Pick true e f = (λ q. cc, λ q. cc)
pick_done places key load station Pick false e f = absurd (true≢false (sym f))
pick_done places key load station Drop finished e f = cc

-- the load of a finished pick, whose job rides, is on the vehicle
pub on_vehicle : (places : Places) (key : VehicleKey) (load station : List ℕ) (kind : ActKind) (finished : Bool) (now : Phase) → kind ≡ Pick → finished ≡ true → now ≡ phase.Riding
    → ActStands places key load station kind finished now → finite.get places load ≡ Some (place.Vehicle key)
on_vehicle places key load station Pick true now e f rides stands = stands.1 rides
on_vehicle places key load station Pick false now e f rides stands = absurd (true≢false (sym f))
on_vehicle places key load station Drop finished now e f rides stands = cc

module _ (layout : Layout) (carries : VehicleKey → List ActionView) (capacity : VehicleKey → ℕ) (key : VehicleKey) where
  -- the stock invariant holds where the vehicle has these actions
  abbrev pub Now : List ActionView → Places → Jobs → Type 0
  Now carried places jobs = StockInvariant layout (with_action_views carries key carried) capacity places jobs

  pub own : (carried : List ActionView) (k : ℕ) (one : ActionView) → slice_get carried k ≡ Some one → slice_get (with_action_views carries key carried key) k ≡ Some one
  own carried k one at = subst (λ xs. slice_get xs k ≡ Some one) (sym (with_here carries key carried)) at

  pub owned : (carried : List ActionView) (k : ℕ) (one : ActionView) → slice_get (with_action_views carries key carried key) k ≡ Some one → slice_get carried k ≡ Some one
  owned carried k one at = subst (λ xs. slice_get xs k ≡ Some one) (with_here carries key carried) at

  pub there : (carried more : List ActionView) (other : VehicleKey) → other ≢ key → with_action_views carries key more other ≡ with_action_views carries key carried other
  there carried more other apart = with_there carries key more other apart ∙ sym (with_there carries key carried other apart)

  -- the vehicle has its places
  pub capacity_now : (carried : List ActionView) (places : Places) (jobs : Jobs) → Now carried places jobs → loads_on_vehicle places key + to_pick carried ≤ capacity key
  capacity_now carried places jobs now = subst (λ xs. loads_on_vehicle places key + to_pick xs ≤ capacity key) (with_here carries key carried) (now.within_capacity key)

  -- an action, with its job's row
  pub fits_here : (carried : List ActionView) (places : Places) (jobs : Jobs) → Now carried places jobs → (k : ℕ) (one : ActionView) → slice_get carried k ≡ Some one
      → (row : JobRow) → finite.get jobs one.job ≡ Some row → Fits places key one row
  fits_here carried places jobs now k one at row here = fits_row places jobs key one row here (now.carried key k one (own carried k one at))

  -- no job has two actions of a kind
  pub one_index : (carried : List ActionView) (places : Places) (jobs : Jobs) → Now carried places jobs → (i k : ℕ) (one more : ActionView)
      → slice_get carried i ≡ Some one → slice_get carried k ≡ Some more → one.job ≡ more.job → one.kind ≡ more.kind → i ≡ k
  one_index carried places jobs now i k one more at further same = (now.once key key i k one more (own carried i one at) (own carried k more further) same).1

  -- no other vehicle has the job
  pub alone_of : (carried : List ActionView) (places : Places) (jobs : Jobs) → Now carried places jobs → (i : ℕ) (one : ActionView) → slice_get carried i ≡ Some one
      → (other : VehicleKey) (k : ℕ) (more : ActionView) → other ≢ key → slice_get (with_action_views carries key carried other) k ≡ Some more → more.job ≢ one.job
  alone_of carried places jobs now i one at other k more apart there same = apart (now.once other key k i more one there (own carried i one at) same).0

  -- after a swap too, no job has two actions of a kind
  apart_swapped : (old new : ActionView) (olds news : List ActionView) (places : Places) (jobs : Jobs) → Now olds places jobs → Swap old new olds news → new.kind ≡ old.kind → new.job ≡ old.job
      → (i k : ℕ) (one more : ActionView) → slice_get news i ≡ Some one → slice_get news k ≡ Some more → one.job ≡ more.job → one.kind ≡ more.kind → i ≡ k
  apart_swapped old new olds news places jobs now swap kind job i k one more at further e f = elim (swap.ahead i one at) [
    | inl here ↦ elim (swap.ahead k more further) [
      | inl too ↦ here.0 ∙ sym too.0
      | inr else_where ↦ here.0 ∙ one_index olds places jobs now swap.index k old more swap.was else_where.1 (sym job ∙ ap (λ (x : ActionView). x.job) (sym here.1) ∙ e) (sym kind ∙ ap (λ (x : ActionView). x.kind) (sym here.1) ∙ f)
    ]
    | inr there ↦ elim (swap.ahead k more further) [
      | inl here ↦ one_index olds places jobs now i swap.index one old there.1 swap.was (e ∙ ap (λ (x : ActionView). x.job) here.1 ∙ job) (f ∙ ap (λ (x : ActionView). x.kind) here.1 ∙ kind) ∙ sym here.0
      | inr too ↦ one_index olds places jobs now i k one more there.1 too.1 e f
    ]
  ]

  -- actions of other jobs are not swapped
  old_of : (old new : ActionView) (olds news : List ActionView) → Swap old new olds news → (k : ℕ) (one : ActionView) → slice_get news k ≡ Some one → one.job ≢ new.job → (i : ℕ) × (slice_get olds i ≡ Some one)
  old_of old new olds news swap k one at other = elim (swap.ahead k one at) [
    | inl here ↦ absurd (other (ap (λ (x : ActionView). x.job) here.1))
    | inr there ↦ (k, there.1)
  ]

  kept_of : (old new : ActionView) (olds news : List ActionView) → Swap old new olds news → (k : ℕ) (one : ActionView) → slice_get olds k ≡ Some one → one.job ≢ old.job → (i : ℕ) × (slice_get news i ≡ Some one)
  kept_of old new olds news swap k one at other = elim (swap.back k one at) [
    | inl here ↦ absurd (other (ap (λ (x : ActionView). x.job) here.1))
    | inr there ↦ (k, there.1)
  ]

  -- a pick becomes finished
  pub pick_step : (gone rest : List ActionView) (job load station : List ℕ) (places : Places) (jobs : Jobs)
      → Now (whole gone (an_action_view Pick job load station false ∷ rest)) places jobs
      → Now (whole gone (an_action_view Pick job load station true ∷ rest)) (finite.insert places load (place.Vehicle key)) jobs
  pick_step gone rest job load station places jobs now =
      let old : ActionView = an_action_view Pick job load station false in
      let new : ActionView = an_action_view Pick job load station true in
      let olds : List ActionView = whole gone (old ∷ rest) in
      let news : List ActionView = whole gone (new ∷ rest) in
      let swap : Swap old new olds news = swap_whole gone old new (old ∷ rest) (new ∷ rest) (swap_here old new rest) in
      let h : IsCarried places jobs key old = now.carried key swap.index old (own olds swap.index old swap.was) in
      let after : Places = finite.insert places load (place.Vehicle key) in
      let put = is_written names_total names_apart places load (place.Vehicle key) in
      shift_kept layout (with_action_views carries key olds) capacity places jobs now (record {
        key = key;
        before = olds;
        after = news;
        carries_after = with_action_views carries key news;
        was = with_here carries key olds;
        now = with_here carries key news;
        there = there olds news;
        job = job;
        row = h.row;
        next = h.row.phase;
        jobs_after = jobs;
        job_was = h.here;
        job_is = is_written_already names_total names_apart jobs job h.row h.here;
        was_live = live_if_riding h.row.phase h.stands.0;
        not_waiting = λ e. let rides = h.stands.0 in cc;
        from = place.Station station;
        to = place.Vehicle key;
        places_after = after;
        place_was = ap (finite.get places) h.load ∙ h.stands.1;
        place_is = subst (λ name. IsWritten places name (place.Vehicle key) after) (sym h.load) put;
        known_place = tt;
        alone = alone_of olds places jobs now swap.index old swap.was;
        old = λ k one at other. old_of old new olds news swap k one at other;
        keeps = λ k one at kind other. kept_of old new olds news swap k one at other;
        mine = λ k one at same. elim (swap.ahead k one at) [
          | inl here ↦ subst (IsCarried after jobs key) (sym here.1) (record {
            row = h.row;
            here = h.here;
            load = h.load;
            station = h.station;
            stands = (λ w. let rides = h.stands.0 in cc, λ w. put.here);
          })
          | inr other ↦
              let c = now.carried key k one (own olds k one other.1) in
              record {
                row = c.row;
                here = c.here;
                load = c.load;
                station = c.station;
                stands = drop_stands places after key one.load one.station one.kind one.finished c.row.phase
                    (λ w. other.0 (one_index olds places jobs now k swap.index one old other.1 swap.was same w)) c.stands;
              }
        ];
        apart = apart_swapped old new olds news places jobs now swap refl refl;
        rides = λ e.
            let t = now.riding job h.row h.here e in
            let same : t.key ≡ key = (now.once t.key key t.k swap.index t.action_view old t.here (own olds swap.index old swap.was) t.of_job).0 in
            let at : slice_get olds t.k ≡ Some t.action_view = owned olds t.k t.action_view (subst (λ b. slice_get (with_action_views carries key olds b) t.k ≡ Some t.action_view) same t.here) in
            elim (swap.back t.k t.action_view at) [
              | inl here ↦ pick_drop t.action_view.kind (ap (λ (x : ActionView). x.kind) here.1) t.drop
              | inr other ↦ (t.k, t.action_view, other.1, t.drop, t.of_job, t.undone)
            ];
        room = λ name. omega arith;
        within_capacity = pick_capacity _ _ _ _ _ (ap one_if (key_itself key)) (capacity_now olds places jobs now) swap.count;
        off = λ other apart. subst (λ b. one_if b ≤ 0) (sym (key_other key other apart)) (omega arith);
      })
    where
      pick_capacity : (o d e n c : ℕ) → o ≡ 1 → n + e ≤ c → d + 1 ≡ e + 0 → o + d + n ≤ c + 0
      pick_capacity o d e n c f g h = omega (arith, f, g, h)

  -- a drop becomes finished, after its pick
  pub drop_step : (gone rest : List ActionView) (job load station : List ℕ) (places : Places) (jobs : Jobs) (row : JobRow)
      → IsPicked (whole gone (an_action_view Drop job load station false ∷ rest)) job
      → finite.get jobs job ≡ Some row
      → Now (whole gone (an_action_view Drop job load station false ∷ rest)) places jobs
      → Now (whole gone (an_action_view Drop job load station true ∷ rest)) (finite.insert places load (place.Station station)) (finite.insert jobs job (record row { phase = phase.Done }))
  drop_step gone rest job load station places jobs row picked here now =
      let old : ActionView = an_action_view Drop job load station false in
      let new : ActionView = an_action_view Drop job load station true in
      let olds : List ActionView = whole gone (old ∷ rest) in
      let news : List ActionView = whole gone (new ∷ rest) in
      let swap : Swap old new olds news = swap_whole gone old new (old ∷ rest) (new ∷ rest) (swap_here old new rest) in
      let h : Fits places key old row = fits_here olds places jobs now swap.index old swap.was row here in
      let p : Fits places key picked.one row = fits_here olds places jobs now picked.k picked.one picked.here row (ap (finite.get jobs) picked.of_job ∙ here) in
      let at : finite.get places row.load ≡ Some (place.Vehicle key) =
      ap (finite.get places) p.load ∙ on_vehicle places key picked.one.load picked.one.station picked.one.kind picked.one.finished row.phase picked.kind picked.finished h.stands p.stands in
      let after : Places = finite.insert places load (place.Station station) in
      let done : JobRow = record row { phase = phase.Done } in
      let jobs_after : Jobs = finite.insert jobs job done in
      let put = is_written names_total names_apart jobs job done in
      shift_kept layout (with_action_views carries key olds) capacity places jobs now (record {
        key = key;
        before = olds;
        after = news;
        carries_after = with_action_views carries key news;
        was = with_here carries key olds;
        now = with_here carries key news;
        there = there olds news;
        job = job;
        row = row;
        next = phase.Done;
        jobs_after = jobs_after;
        job_was = here;
        job_is = put;
        was_live = live_if_riding row.phase h.stands;
        not_waiting = λ e. cc;
        from = place.Vehicle key;
        to = place.Station station;
        places_after = after;
        place_was = at;
        place_is = subst (λ name. IsWritten places name (place.Station station) after) (sym h.load) (is_written names_total names_apart places load (place.Station station));
        known_place = subst (λ name. (site : StationSite) × IsStation layout name site) h.station (now.known job row here).target;
        alone = alone_of olds places jobs now swap.index old swap.was;
        old = λ k one at other. old_of old new olds news swap k one at other;
        keeps = λ k one at kind other. kept_of old new olds news swap k one at other;
        mine = λ k one at same. elim (swap.ahead k one at) [
          | inl is ↦ subst (IsCarried after jobs_after key) (sym is.1) (record {
            row = done;
            here = put.here;
            load = h.load;
            station = h.station;
            stands = refl;
          })
          | inr other ↦
              let c = fits_here olds places jobs now k one other.1 row (ap (finite.get jobs) same ∙ here) in
              let kind : one.kind ≡ Pick = not_drop one.kind (λ w. other.0 (one_index olds places jobs now k swap.index one old other.1 swap.was same w)) in
              let index : k ≡ picked.k = one_index olds places jobs now k picked.k one picked.one other.1 picked.here (same ∙ sym picked.of_job) (kind ∙ sym picked.kind) in
              let is : one ≡ picked.one = same_some (sym other.1 ∙ ap (slice_get olds) index ∙ picked.here) in
              record {
                row = done;
                here = ap (finite.get jobs_after) same ∙ put.here;
                load = c.load;
                station = station_still one.kind row phase.Done ∙ c.station;
                stands = pick_done after key one.load one.station one.kind one.finished kind (ap (λ (x : ActionView). x.finished) is ∙ picked.finished);
              }
        ];
        apart = apart_swapped old new olds news places jobs now swap refl refl;
        rides = λ e. cc;
        room = λ name. drop_room _ _ _ (ap (λ target. one_if (pointwise nat_eq target name)) (sym h.station)) (ap (λ f. one_if (is_live f && pointwise nat_eq row.target name)) h.stands);
        within_capacity = drop_capacity _ _ _ _ _ (capacity_now olds places jobs now) swap.count;
        off = λ other apart. omega arith;
      })
    where
      drop_room : (x y z : ℕ) → x ≡ y → z ≡ y → x + 0 ≤ 0 + z
      drop_room x y z e f = omega (arith, e, f)

      drop_capacity : (d e n c o : ℕ) → n + e ≤ c → d + 0 ≡ e + 0 → 0 + d + n ≤ c + o
      drop_capacity d e n c o g h = omega (arith, g, h)
