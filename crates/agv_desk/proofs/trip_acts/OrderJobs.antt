-- The jobs of an order's stops, as the world has them, and what begins with the order.
use Rattle.std.proofs.Common.{◌≡◌, ◌+◌, ℕ, zero, suc, length, ◌&&◌, Bool, true, false, cond, nat_eq, List, [], ◌∷◌, filter_map, map, option_map, option_and_then, Option, None, Some, true≢false, refl, sym, ap, subst, ◌∙◌, if◌then◌else◌}
use Rattle.std.proofs.lemmas.Bool.{and_parts}
use Rattle.std.specs.Cmp.Lexicographic.{pointwise}
use Rattle.std.specs.FinMap as finite
use Rattle.std.specs.List.{cons_option, list_all, slice_get}
use Rattle.agv_header.specs.Each.{each}
use Rattle.agv_layout.specs.Layout.{Layout}
use Rattle.agv_layout.specs.declared.edge.Edge.{Edge}
use Rattle.agv_message_core.specs.declared.order.ActKind.{ActKind}
use Rattle.agv_message_core.specs.declared.order.ActKind.TheVariants.{Pick, Drop}
use Rattle.agv_message_core.specs.declared.status.Status.TheVariants as status
use Rattle.agv_order.specs.Plans.{job_named, stop_station}
use Rattle.agv_order.specs.StopPlaces.{stop_picks}
use Rattle.agv_order.specs.Tours.{MakesStop, MakesStops}
use Rattle.agv_order.specs.declared.act.Act.{Act}
use Rattle.agv_order.specs.declared.stop.Stop.{Stop}
use Rattle.agv_stock.specs.declared.job.Job.{Job}
use Rattle.agv_stock.specs.declared.job.Phase.{Phase}
use Rattle.agv_stock.specs.declared.job.Phase.TheVariants as phase
use Rattle.agv_world_core.specs.Lawful.{station_for}
use Rattle.agv_world_core.specs.Worlds.{World}
use Rattle.agv_world_core.specs.declared.row.JobRow.{JobRow}
use Rattle.agv_desk.specs.ActSteps.{job_in}
use Rattle.agv_desk.specs.JobSteps.{is_waiting}
use Rattle.agv_desk.specs.OrderSteps.{job_for, named, riding, riding_by, waits}
use Rattle.agv_desk.proofs.trip_acts.ActionViews.{stop_by}
use Rattle.agv_desk.proofs.outcomes.Known.{none_some, same_some}
use Rattle.agv_desk.proofs.lists.SameNames.{same_name}

-- what each item of a list gives, the first and then the others
each_first : {B : Type 0} (first : Option B) (rest : Option (List B)) (all : List B) → option_and_then (λ y. option_map (λ ys. y ∷ ys) rest) first ≡ Some all
    → (y : B) × (ys : List B) × (first ≡ Some y) × (rest ≡ Some ys) × (all ≡ y ∷ ys)
each_first None rest all e = none_some e
each_first (Some y) None all e = none_some e
each_first (Some y) (Some ys) all e = (y, ys, refl, refl, sym (same_some e))

waiting_is : (now : Phase) → is_waiting now ≡ true → now ≡ phase.Waiting
waiting_is phase.Waiting e = refl
waiting_is phase.Riding e = absurd (true≢false (sym e))
waiting_is phase.Done e = absurd (true≢false (sym e))
waiting_is phase.Stopped e = absurd (true≢false (sym e))

-- a job of the world that waits
pub record WaitsIn (world : World) (name : List ℕ) : Type 0 where
  pub row : JobRow
  pub here : finite.get world.jobs name ≡ Some row
  pub waiting : row.phase ≡ phase.Waiting

-- the job of a pick begins to ride
abbrev pub begins : World → Stop → Option (List ℕ × JobRow)
begins world stop = if stop_picks stop then job_in world stop.job (Some phase.Riding) else None

module _ (world : World) where
  -- the row of a stop's job
  row_of : (name : List ℕ) (found : Option JobRow) (job : Job) → option_map (named name) found ≡ Some job → (row : JobRow) × (found ≡ Some row) × (job ≡ named name row)
  row_of name None job e = none_some e
  row_of name (Some row) job e = (row, refl, sym (same_some e))

  -- each job that an order is for waits
  pub stops_wait : (stops : List Stop) (jobs : List Job) → each (job_for world) stops ≡ Some jobs → list_all waits jobs ≡ true
      → (k : ℕ) (stop : Stop) → slice_get stops k ≡ Some stop → WaitsIn world stop.job
  stops_wait [] jobs read wait k stop at = none_some at
  stops_wait (first ∷ stops) jobs read wait k stop at =
      let split = each_first (job_for world first) (each (job_for world) stops) jobs read in
      let row = row_of first.job (finite.get world.jobs first.job) split.0 split.2 in
      let both : (waits split.0 && list_all waits split.1) ≡ true = ap (list_all waits) (sym split.4) ∙ wait in
      by_place split.0 row (and_parts _ _ both).0 (λ i there. stops_wait stops split.1 split.3 (and_parts _ _ both).1 i stop there) k at
    where
      by_place : (job : Job) → ((row : JobRow) × (finite.get world.jobs first.job ≡ Some row) × (job ≡ named first.job row)) → waits job ≡ true
          → ((i : ℕ) → slice_get stops i ≡ Some stop → WaitsIn world stop.job) → (k : ℕ) → slice_get (first ∷ stops) k ≡ Some stop → WaitsIn world stop.job
      by_place job row waits_now later zero at =
          subst (λ (s : Stop). WaitsIn world s.job) (same_some at)
          (record { row = row.0; here = row.1; waiting = waiting_is row.0.phase (ap (λ (j : Job). is_waiting j.phase) (sym row.2) ∙ waits_now) })
      by_place job row waits_now later (suc i) at = later i at

  riding_first : (stop : Stop) (job : Job) (row : JobRow) → finite.get world.jobs stop.job ≡ Some row → job ≡ named stop.job row → riding_by (stop, job) ≡ begins world stop
  riding_first stop job row there is =
      elim (stop_picks stop) as (λ pick. cond pick (Some (job.name, record { load = job.load; origin = job.origin; target = job.target; phase = phase.Riding })) None ≡ cond pick (job_in world stop.job (Some phase.Riding)) None) [
        | true ↦
            ap (λ (j : Job). Some (j.name, record { load = j.load; origin = j.origin; target = j.target; phase = phase.Riding })) is
            ∙ sym (ap (option_map (λ (r : JobRow). (stop.job, record r { phase = phase.Riding }))) there)
        | false ↦ refl
      ]

  -- the rows that are written are those of the picks' jobs, which ride
  pub riding_is : (stops : List Stop) (jobs : List Job) → each (job_for world) stops ≡ Some jobs → riding stops jobs ≡ filter_map (begins world) stops
  riding_is [] jobs read = refl
  riding_is (stop ∷ stops) jobs read =
      let split = each_first (job_for world stop) (each (job_for world) stops) jobs read in
      let row = row_of stop.job (finite.get world.jobs stop.job) split.0 split.2 in
      let first = riding_first stop split.0 row.0 row.1 row.2 in
      let rest = riding_is stops split.1 split.3 in
      ap (riding (stop ∷ stops)) split.4 ∙ (λ i. cons_option (first i) (rest i))

  -- the job of a stop among the jobs is that of the world
  pub found_job : (stops : List Stop) (jobs : List Job) → each (job_for world) stops ≡ Some jobs → (name : List ℕ) (job : Job) → job_named jobs name ≡ Some job
      → (row : JobRow) × (finite.get world.jobs name ≡ Some row) × (job ≡ named name row)
  found_job [] jobs read name job is = absurd (nothing (same_some read))
    where
      nothing : [] ≡ jobs → ⊥
      nothing e = none_some (ap (λ js. job_named js name) e ∙ is)
  found_job (stop ∷ stops) jobs read name job is =
      let split = each_first (job_for world stop) (each (job_for world) stops) jobs read in
      let row = row_of stop.job (finite.get world.jobs stop.job) split.0 split.2 in
      by_test split.0 row (pointwise nat_eq split.0.name name) refl (λ e. found_job stops split.1 split.3 name job e) (ap (λ js. job_named js name) (sym split.4) ∙ is)
    where
      by_test : (first : Job) → ((row : JobRow) × (finite.get world.jobs stop.job ≡ Some row) × (first ≡ named stop.job row)) → {rest : Option Job} (same : Bool) → pointwise nat_eq first.name name ≡ same
          → (rest ≡ Some job → (row : JobRow) × (finite.get world.jobs name ≡ Some row) × (job ≡ named name row))
          → cond same (Some first) rest ≡ Some job → (row : JobRow) × (finite.get world.jobs name ≡ Some row) × (job ≡ named name row)
      by_test first row true e later found =
          let stop_is : stop.job ≡ name = ap (λ (j : Job). j.name) (sym row.2) ∙ same_name first.name name e in
          (row.0, ap (finite.get world.jobs) (sym stop_is) ∙ row.1, sym (same_some found) ∙ row.2 ∙ ap (λ n. named n row.0) stop_is)
      by_test first row false e later found = later found

  -- an act that begins: its job is there, with its load and its station, and it was not carried out
  pub record Begins (act : Act) : Type 0 where
    pub row : JobRow
    pub here : finite.get world.jobs act.job ≡ Some row
    pub load : row.load ≡ act.load
    pub station : station_for act.kind row ≡ act.station
    pub waiting : act.status ≡ status.Waiting

  station_same : (kind : ActKind) (name : List ℕ) (row : JobRow) → stop_station kind (named name row) ≡ station_for kind row
  station_same Pick name row = refl
  station_same Drop name row = refl

  module _ (all : List Stop) (jobs : List Job) (read : each (job_for world) all ≡ Some jobs) (layout : Layout) where
    act_begins : (at : List ℕ) (place : ℕ) (stop : Stop) (edges : List Edge) (act : Act) → MakesStop layout jobs at place stop edges act → Begins act
    act_begins at place stop edges act made =
        let found = found_job all jobs read stop.job made.job made.named in
        let does = made.does in
        record {
          row = found.0;
          here = ap (λ (a : Act). finite.get world.jobs a.job) does ∙ found.1;
          load = ap (λ (j : Job). j.load) (sym found.2) ∙ ap (λ (a : Act). a.load) (sym does);
          station = ap (λ (a : Act). station_for a.kind found.0) does ∙ sym (station_same stop.kind stop.job found.0) ∙ ap (stop_station stop.kind) (sym found.2) ∙ ap (λ (a : Act). a.station) (sym does);
          waiting = ap (λ (a : Act). a.status) does;
        }

    -- the acts of a plan begin, and are those of the stops
    pub acts_begin : (at : List ℕ) (place : ℕ) (stops : List Stop) (edges : List Edge) (acts : List Act) → MakesStops layout jobs at place stops edges acts
        → (k : ℕ) (act : Act) → slice_get acts k ≡ Some act → Begins act
    acts_begin at place [] edges [] goes k act there = none_some there
    acts_begin at place [] edges (first ∷ acts) goes k act there = absurd goes
    acts_begin at place (stop ∷ stops) edges [] goes k act there = none_some there
    acts_begin at place (stop ∷ stops) edges (first ∷ acts) goes zero act there = subst Begins (same_some there) (act_begins at place stop goes.0 first goes.3.0)
    acts_begin at place (stop ∷ stops) edges (first ∷ acts) goes (suc k) act there = acts_begin goes.3.0.site.node (place + length goes.0) stops goes.1 acts goes.3.1 k act there

    pub stops_made : (at : List ℕ) (place : ℕ) (stops : List Stop) (edges : List Edge) (acts : List Act) → MakesStops layout jobs at place stops edges acts → map stop_by acts ≡ stops
    stops_made at place [] edges [] goes = refl
    stops_made at place [] edges (first ∷ acts) goes = absurd goes
    stops_made at place (stop ∷ stops) edges [] goes = absurd goes
    stops_made at place (stop ∷ stops) edges (first ∷ acts) goes =
        let made : MakesStop layout jobs at place stop goes.0 first = goes.3.0 in
        let rest = stops_made goes.3.0.site.node (place + length goes.0) stops goes.1 acts goes.3.1 in
        λ i. record { kind = (made.does i).kind; job = (made.does i).job } ∷ rest i
