-- The jobs of an order begin to ride: what of the jobs stays the same, and what each of them is then.
use Rattle.std.proofs.Common.{◌≡◌, ◌≢◌, ◌⊎◌, ◌+◌, ◌&&◌, ℕ, zero, suc, true, nat_eq, List, [], ◌∷◌, filter_map, Option, None, Some, arith, inl, inr, refl, sym, ap, subst, ◌∙◌}
use Rattle.std.specs.Cmp.Lexicographic.{pointwise}
use Rattle.std.specs.FinMap as finite
use Rattle.std.specs.List.{cons_option, slice_get}
use Rattle.agv_message_core.specs.declared.order.ActKind.{ActKind}
use Rattle.agv_message_core.specs.declared.order.ActKind.TheVariants.{Pick, Drop}
use Rattle.agv_order.specs.StopPlaces.{IsAt}
use Rattle.agv_order.specs.declared.stop.Stop.{Stop}
use Rattle.agv_stock.specs.Phase.{is_live}
use Rattle.agv_stock.specs.declared.job.Phase.TheVariants as phase
use Rattle.agv_world_core.specs.StockInvariant.{Jobs}
use Rattle.agv_world_core.specs.Questions.{is_live_to, reserved_by}
use Rattle.agv_world_core.specs.TableChanges.{written}
use Rattle.agv_world_core.specs.Worlds.{World}
use Rattle.agv_world_core.specs.declared.row.JobRow.{JobRow}
use Rattle.agv_world_core.proofs.lists.Orders.{names_total, names_apart}
use Rattle.agv_desk.proofs.outcomes.Known.{none_some, same_some}
use Rattle.agv_desk.proofs.trip_acts.OrderJobs.{WaitsIn, begins}
use Rattle.agv_desk.proofs.trip_acts.WalkHeads.{written-first, written_job}
use Rattle.agv_desk.proofs.lists.Writes.{is_written, len-written, one_if, same_or_other, tally-written, weight}

abbrev pub rides : JobRow → JobRow
rides row = record row { phase = phase.Riding }

module _ (world : World) (Picks : List ℕ → Type 0) where
  -- the job waited, is picked, and rides now
  pub record HasBegun (jobs : Jobs) (job : List ℕ) : Type 0 where
    pub row : JobRow
    pub was : finite.get world.jobs job ≡ Some row
    pub waited : row.phase ≡ phase.Waiting
    pub is : finite.get jobs job ≡ Some (rides row)
    pub picked : Picks job

  -- some jobs have begun
  pub record Begun (jobs : Jobs) : Type 0 where
    pub few : finite.len jobs ≡ finite.len world.jobs
    pub reserved_by : (station : List ℕ) → reserved_by jobs station ≡ reserved_by world.jobs station
    pub each : (job : List ℕ) → (finite.get jobs job ≡ finite.get world.jobs job) ⊎ HasBegun jobs job

  pub none_begun : Begun world.jobs
  none_begun = record { few = refl; reserved_by = λ station. refl; each = λ job. inl refl }

  -- what a job that waited is, whether it has begun or not
  record IsLiveAs (jobs : Jobs) (job : List ℕ) (row : JobRow) : Type 0 where
    now : JobRow
    there : finite.get jobs job ≡ Some now
    live : is_live now.phase ≡ true
    target : now.target ≡ row.target

  live_as : (jobs : Jobs) → Begun jobs → (job : List ℕ) (waits : WaitsIn world job) → IsLiveAs jobs job waits.row
  live_as jobs begun job waits = elim (begun.each job) [
    | inl same ↦ record { now = waits.row; there = same ∙ waits.here; live = ap is_live waits.waiting; target = refl }
    | inr has ↦ record { now = rides has.row; there = has.is; live = refl; target = ap (λ (r : JobRow). r.target) (same_some (sym has.was ∙ waits.here)) }
  ]

  -- one more begins
  begun_step : (jobs : Jobs) → Begun jobs → (job : List ℕ) (waits : WaitsIn world job) → Picks job → Begun (finite.insert jobs job (rides waits.row))
  begun_step jobs begun job waits picked =
      let put = is_written names_total names_apart jobs job (rides waits.row) in
      let old = live_as jobs begun job waits in
      record {
        few = len-written names_total names_apart jobs job (rides waits.row) old.now _ put old.there ∙ begun.few;
        reserved_by = λ station.
            let count = subst (λ (o : Option JobRow). reserved_by (finite.insert jobs job (rides waits.row)) station + weight (is_live_to station) o ≡ reserved_by jobs station + one_if (is_live_to station (rides waits.row))) old.there
            (tally-written names_total names_apart (is_live_to station) jobs job (rides waits.row) _ put) in
            alike _ _ _ _ count (λ i. one_if (old.live i && pointwise nat_eq (old.target i) station)) ∙ begun.reserved_by station;
        each = λ other. elim (same_or_other names_total names_apart other job) [
          | inl same ↦ inr (subst (HasBegun (finite.insert jobs job (rides waits.row))) (sym same) (record { row = waits.row; was = waits.here; waited = waits.waiting; is = put.here; picked = picked }))
          | inr apart ↦ elim (begun.each other) [
            | inl still ↦ inl (put.there other apart ∙ still)
            | inr has ↦ inr (record { row = has.row; was = has.was; waited = has.waited; is = put.there other apart ∙ has.is; picked = has.picked })
          ]
        ];
      }
    where
      alike : (n o p q : ℕ) → n + o ≡ p + q → o ≡ q → n ≡ p
      alike n o p q e f = omega (arith, e, f)

  -- the first stop: its job begins if it is a pick
  begun_first : (stop : Stop) (kind : ActKind) (jobs : Jobs) → stop.kind ≡ kind → WaitsIn world stop.job → (stop.kind ≡ Pick → Picks stop.job) → Begun jobs → Begun (written jobs (cons_option (begins world stop) []))
  begun_first stop Pick jobs is waits picked begun =
      subst (λ k. Begun (written jobs (cons_option (begins world (record { kind = k; job = stop.job })) []))) (sym is)
      (subst Begun (sym (written_job world jobs stop.job waits.row phase.Riding waits.here)) (begun_step jobs begun stop.job waits (picked is)))
  begun_first stop Drop jobs is waits picked begun =
      subst (λ k. Begun (written jobs (cons_option (begins world (record { kind = k; job = stop.job })) []))) (sym is) begun

  pub begun_all : (stops : List Stop) (jobs : Jobs) → ((k : ℕ) (stop : Stop) → slice_get stops k ≡ Some stop → WaitsIn world stop.job)
      → ((k : ℕ) (job : List ℕ) → IsAt stops job Pick k → Picks job) → Begun jobs → Begun (written jobs (filter_map (begins world) stops))
  begun_all [] jobs waits picks begun = begun
  begun_all (stop ∷ stops) jobs waits picks begun =
      subst Begun (sym (written-first jobs (begins world stop) (filter_map (begins world) stops)))
      (begun_all stops _ (λ k. waits (suc k)) (λ k. picks (suc k))
      (begun_first stop stop.kind jobs refl (waits 0 stop refl) (λ is. picks 0 stop.job (λ i. Some (record { kind = is i; job = stop.job }))) begun))

-- ---- each job that is picked rides

module _ (world : World) (job : List ℕ) (row : JobRow) (there : finite.get world.jobs job ≡ Some row) where
  -- it rides on
  rides_first : (stop : Stop) (kind : ActKind) (jobs : Jobs) → stop.kind ≡ kind → finite.get jobs job ≡ Some (rides row) → finite.get (written jobs (cons_option (begins world stop) [])) job ≡ Some (rides row)
  rides_first stop Drop jobs is now =
      subst (λ k. finite.get (written jobs (cons_option (begins world (record { kind = k; job = stop.job })) [])) job ≡ Some (rides row)) (sym is) now
  rides_first stop Pick jobs is now =
      subst (λ k. finite.get (written jobs (cons_option (begins world (record { kind = k; job = stop.job })) [])) job ≡ Some (rides row)) (sym is)
      (elim (same_or_other names_total names_apart job stop.job) [
        | inl same ↦ ap (λ m. finite.get m job) (written_job world jobs stop.job row phase.Riding (ap (finite.get world.jobs) (sym same) ∙ there))
            ∙ subst (λ name. finite.get (finite.insert jobs name (rides row)) job ≡ Some (rides row)) same (is_written names_total names_apart jobs job (rides row)).here
        | inr other ↦ by_row (finite.get world.jobs stop.job) other
      ])
    where
      by_row : (found : Option JobRow) → job ≢ stop.job → finite.get (written jobs (cons_option (elim found [ Some r ↦ Some (stop.job, rides r) | None ↦ None ]) [])) job ≡ Some (rides row)
      by_row None other = now
      by_row (Some r) other = (is_written names_total names_apart jobs stop.job (rides r)).there job other ∙ now

  rides_still : (stops : List Stop) (jobs : Jobs) → finite.get jobs job ≡ Some (rides row) → finite.get (written jobs (filter_map (begins world) stops)) job ≡ Some (rides row)
  rides_still [] jobs now = now
  rides_still (stop ∷ stops) jobs now =
      ap (λ m. finite.get m job) (written-first jobs (begins world stop) (filter_map (begins world) stops))
      ∙ rides_still stops _ (rides_first stop stop.kind jobs refl now)

  pub rides_at : (stops : List Stop) (jobs : Jobs) (k : ℕ) → IsAt stops job Pick k → finite.get (written jobs (filter_map (begins world) stops)) job ≡ Some (rides row)
  rides_at [] jobs k at = none_some at
  rides_at (stop ∷ stops) jobs zero at =
      ap (λ m. finite.get m job) (written-first jobs (begins world stop) (filter_map (begins world) stops))
      ∙ rides_still stops _ (subst (λ (s : Stop). finite.get (written jobs (cons_option (begins world s) [])) job ≡ Some (rides row)) (sym (same_some at)) first)
    where
      first : finite.get (written jobs (cons_option (begins world (record { kind = Pick; job = job })) [])) job ≡ Some (rides row)
      first = ap (λ m. finite.get m job) (written_job world jobs job row phase.Riding there) ∙ (is_written names_total names_apart jobs job (rides row)).here
  rides_at (stop ∷ stops) jobs (suc k) at =
      ap (λ m. finite.get m job) (written-first jobs (begins world stop) (filter_map (begins world) stops)) ∙ rides_at stops _ k at
