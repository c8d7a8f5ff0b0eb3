-- What one act of a state moves and writes, as the first of the acts that are left.
use Rattle.std.proofs.Common.{◌≡◌, ◌≢◌, ◌&&◌, ℕ, suc, Bool, true, false, not, List, [], ◌∷◌, Option, None, Some, true≢false, refl, sym, ap, subst, ◌∙◌, if◌then◌else◌}
use Rattle.std.specs.FinMap as finite
use Rattle.std.specs.List.{cons_option, slice_get}
use Rattle.agv_header.specs.declared.key.VehicleKey.{VehicleKey}
use Rattle.agv_layout.specs.Layout.{Layout}
use Rattle.agv_message_core.specs.declared.order.ActKind.{ActKind}
use Rattle.agv_message_core.specs.declared.order.ActKind.TheVariants.{Pick, Drop}
use Rattle.agv_order.specs.Statuses.{is_finished}
use Rattle.agv_order.specs.StopPlaces.{IsAt}
use Rattle.agv_order.specs.Stops.{is_drop}
use Rattle.agv_stock.specs.declared.job.Phase.{Phase}
use Rattle.agv_stock.specs.declared.job.Phase.TheVariants as phase
use Rattle.agv_world_core.specs.StockInvariant.{ActionView, Jobs, Places}
use Rattle.agv_world_core.specs.TableChanges.{written}
use Rattle.agv_world_core.specs.Worlds.{World}
use Rattle.agv_world_core.specs.declared.row.JobRow.{JobRow}
use Rattle.agv_world_core.proofs.lists.Orders.{names_total, names_apart}
use Rattle.agv_desk.specs.ActSteps.{Renewed, act_job, job_in, taken_to}
use Rattle.agv_desk.specs.Outcomes.{Acted, Move, moved}
use Rattle.agv_desk.proofs.trip_acts.ActionViews.{IsPicked, in_rest, stops_by, whole}
use Rattle.agv_desk.proofs.trip_acts.FitStops.{Fit}
use Rattle.agv_desk.proofs.trip_acts.OffSteps.{done_step, less, stop_step}
use Rattle.agv_desk.proofs.trip_acts.WalkSteps.{Now, an_action_view, drop_step, own, pick_step}
use Rattle.agv_desk.proofs.lists.Writes.{is_written}

-- ---- the first of several

pub moved-first : (places : Places) (first : Option Move) (moves : List Move) → moved places (cons_option first moves) ≡ moved (moved places (cons_option first [])) moves
moved-first places None moves = refl
moved-first places (Some move) moves = refl

pub written-first : (jobs : Jobs) (first : Option (List ℕ × JobRow)) (entries : List (List ℕ × JobRow)) → written jobs (cons_option first entries) ≡ written (written jobs (cons_option first [])) entries
written-first jobs None entries = refl
written-first jobs (Some entry) entries = refl

-- ---- an act by its parts: its kind, job, load and station, whether it was finished and whether it is

abbrev pub move_by : VehicleKey → List ℕ → ActKind → List ℕ → List ℕ → List ℕ → Bool → Bool → Option Move
move_by key order kind job load station was is =
    if is && not was then Some (record { load = load; place = taken_to key kind station; cause = Acted kind order job }) else None

abbrev pub next_by : Bool → ActKind → Bool → Bool → Option Phase
next_by ended kind was is =
    if not (is_drop kind) then None
    else (if is && not was then Some phase.Done
    else (if ended && not is then Some phase.Stopped else None))

abbrev pub job_by : World → Bool → ActKind → List ℕ → Bool → Bool → Option (List ℕ × JobRow)
job_by world ended kind job was is = job_in world job (next_by ended kind was is)

-- a job that the world has is written
pub written_job : (world : World) (jobs : Jobs) (job : List ℕ) (row : JobRow) (next : Phase) → finite.get world.jobs job ≡ Some row
    → written jobs (cons_option (job_in world job (Some next)) []) ≡ finite.insert jobs job (record row { phase = next })
written_job world jobs job row next there =
    ap (λ (found : Option JobRow). written jobs (cons_option (elim found [ Some r ↦ Some (job, record r { phase = next }) | None ↦ None ]) [])) there

-- other jobs stay
others_stay : (world : World) (jobs : Jobs) (name : List ℕ) (next : Option Phase) (job : List ℕ) → job ≢ name → finite.get (written jobs (cons_option (job_in world name next) [])) job ≡ finite.get jobs job
others_stay world jobs name None job other = refl
others_stay world jobs name (Some next) job other = by_row (finite.get world.jobs name)
  where
    by_row : (found : Option JobRow) → finite.get (written jobs (cons_option (elim found [ Some r ↦ Some (name, record r { phase = next }) | None ↦ None ]) [])) job ≡ finite.get jobs job
    by_row None = refl
    by_row (Some row) = (is_written names_total names_apart jobs name (record row { phase = next })).there job other

-- ---- jobs that were not written yet

-- the jobs of the drops to come are as in the world before
abbrev pub Untouched : World → List Renewed → Jobs → Type 0
Untouched world acts jobs = (k : ℕ) (job : List ℕ) → IsAt (stops_by acts) job Drop k → finite.get jobs job ≡ finite.get world.jobs job

still : (world : World) (jobs : Jobs) (ended : Bool) (kind : ActKind) (name : List ℕ) (was is : Bool) (job : List ℕ) → (kind ≡ Drop → job ≢ name)
    → finite.get (written jobs (cons_option (job_by world ended kind name was is) [])) job ≡ finite.get jobs job
still world jobs ended Pick name was is job other = refl
still world jobs ended Drop name was is job other = others_stay world jobs name (next_by ended Drop was is) job (other refl)

pub untouched_next : (world : World) (ended : Bool) (act : Renewed) (acts : List Renewed) (jobs : Jobs) → Fit (stops_by (act ∷ acts)) → Untouched world (act ∷ acts) jobs
    → Untouched world acts (written jobs (cons_option (act_job world ended act) []))
untouched_next world ended act acts jobs fit untouched k job at =
    still world jobs ended act.0.kind act.0.job (is_finished act.0.status) (is_finished act.1) job
    (λ is same. fit.0 k (subst (λ kind. IsAt (stops_by acts) act.0.job kind k) (sym is) (subst (λ name. IsAt (stops_by acts) name Drop k) same at)))
    ∙ untouched (suc k) job at

module _ (layout : Layout) (carries : VehicleKey → List ActionView) (capacity : VehicleKey → ℕ) (key : VehicleKey) (world : World) (order : List ℕ) where
  abbrev With : List ActionView → Places → Jobs → Type 0
  With carried places jobs = Now layout carries capacity key carried places jobs

  -- the row of an action's job, as the world has it
  pub row_in : (carried : List ActionView) (places : Places) (jobs : Jobs) (k : ℕ) (one : ActionView) → With carried places jobs → slice_get carried k ≡ Some one
      → finite.get jobs one.job ≡ finite.get world.jobs one.job → (row : JobRow) × (finite.get jobs one.job ≡ Some row) × (finite.get world.jobs one.job ≡ Some row)
  row_in carried places jobs k one now at same =
      let h = now.carried key k one (own layout carries capacity key carried k one at) in (h.row, h.here, sym same ∙ h.here)

  -- one act of a trip that goes on
  pub head : (gone rest : List ActionView) (kind : ActKind) (job load station : List ℕ) (was is : Bool) (places : Places) (jobs : Jobs)
      → (was ≡ true → is ≡ true)
      → (kind ≡ Drop → was ≡ false → is ≡ true → IsPicked (whole gone (an_action_view kind job load station was ∷ rest)) job)
      → (kind ≡ Drop → finite.get jobs job ≡ finite.get world.jobs job)
      → With (whole gone (an_action_view kind job load station was ∷ rest)) places jobs
      → With (whole gone (an_action_view kind job load station is ∷ rest)) (moved places (cons_option (move_by key order kind job load station was is) [])) (written jobs (cons_option (job_by world false kind job was is) []))
  head gone rest Pick job load station true true places jobs renews picked same now = now
  head gone rest Drop job load station true true places jobs renews picked same now = now
  head gone rest kind job load station true false places jobs renews picked same now = absurd (true≢false (sym (renews refl)))
  head gone rest Pick job load station false false places jobs renews picked same now = now
  head gone rest Drop job load station false false places jobs renews picked same now = now
  head gone rest Pick job load station false true places jobs renews picked same now = pick_step layout carries capacity key gone rest job load station places jobs now
  head gone rest Drop job load station false true places jobs renews picked same now =
      let old : ActionView = an_action_view Drop job load station false in
      let index = in_rest gone (old ∷ rest) 0 old refl in
      let row = row_in (whole gone (old ∷ rest)) places jobs index.0 old now index.1 (same refl) in
      subst (λ after. With (whole gone (an_action_view Drop job load station true ∷ rest)) (finite.insert places load (taken_to key Drop station)) after)
      (sym (written_job world jobs job row.0 phase.Done row.2))
      (drop_step layout carries capacity key gone rest job load station places jobs row.0 (picked refl refl refl) row.1 now)

  -- one act of a trip that has ended
  pub off_head : (rest : List ActionView) (kind : ActKind) (job load station : List ℕ) (was is : Bool) (places : Places) (jobs : Jobs)
      → (was ≡ true → is ≡ true)
      → (kind ≡ Drop → (k : ℕ) (one : ActionView) → slice_get rest k ≡ Some one → one.job ≡ job → ⊥)
      → (kind ≡ Drop → finite.get jobs job ≡ finite.get world.jobs job)
      → With (an_action_view kind job load station was ∷ rest) places jobs
      → With rest (moved places (cons_option (move_by key order kind job load station was is) [])) (written jobs (cons_option (job_by world true kind job was is) []))
  off_head rest kind job load station true false places jobs renews none same now = absurd (true≢false (sym (renews refl)))
  off_head rest Pick job load station true true places jobs renews none same now = less layout carries capacity key (an_action_view Pick job load station true) rest places jobs (λ e. cc) now
  off_head rest Pick job load station false false places jobs renews none same now = less layout carries capacity key (an_action_view Pick job load station false) rest places jobs (λ e. cc) now
  off_head rest Pick job load station false true places jobs renews none same now =
      less layout carries capacity key (an_action_view Pick job load station true) rest _ jobs (λ e. cc) (pick_step layout carries capacity key [] rest job load station places jobs now)
  off_head rest Drop job load station true true places jobs renews none same now = less layout carries capacity key (an_action_view Drop job load station true) rest places jobs (λ e. refl) now
  off_head rest Drop job load station false false places jobs renews none same now =
      let old : ActionView = an_action_view Drop job load station false in
      let row = row_in (old ∷ rest) places jobs 0 old now refl (same refl) in
      subst (λ after. With rest places after) (sym (written_job world jobs job row.0 phase.Stopped row.2))
      (stop_step layout carries capacity key rest job load station places jobs row.0 (none refl) row.1 now)
  off_head rest Drop job load station false true places jobs renews none same now =
      let old : ActionView = an_action_view Drop job load station false in
      let row = row_in (old ∷ rest) places jobs 0 old now refl (same refl) in
      subst (λ after. With rest (finite.insert places load (taken_to key Drop station)) after) (sym (written_job world jobs job row.0 phase.Done row.2))
      (done_step layout carries capacity key rest job load station places jobs row.0 (none refl) row.1 now)
