use Rattle.std.proofs.Common.{◌≡◌, ◌∙◌, Err, None, Ok, Option, Some, sym}
use Rattle.std.proofs.lemmas.Option.{same_Some}
use Rattle.std.specs.FinMap as map
use Rattle.agv_header.specs.Name.{name_cmp}
use Rattle.agv_world_core.specs.Maps.{maps_of}
use Rattle.agv_world_core.specs.declared.row.TripRow.{TripRow}
use Rattle.agv_store_schema.specs.SchemaNumbers.{desk_seats}
use Rattle.agv_store_read.specs.declared.open_fault.OpenFault.TheVariants as fault
use Rattle.agv_store_read.proofs.AskingAll.{all_passes, all_then, all_then_follows, all_then_passes, if_err, passes_no_storage}
use Rattle.agv_store_read.proofs.TableReading.{runs_short}
use Rattle.agv_store_read_tables.proofs.TripTableAnswers.{shows_acts, shows_journeys, tells_trips}
use Rattle.agv_store_read_tables.proofs.trip_reading.query_trips.Goals as goal

pub returns-in_err-query_no_trips : goal.returns-in_err-query_no_trips
returns-in_err-query_no_trips g c =
    all_passes g.S.Store c.args.conn.now c.query_no_trips.new.conn c.in_err-query_no_trips.field-0.0 _ _ _ _ c.from_residual.result c.from_residual.ensures.1 c.in_err-query_no_trips.ensures

pub returns-in_err-jobs : goal.returns-in_err-jobs
returns-in_err-jobs g c =
    all_then_passes g.S.Store c.args.conn.now c.query_no_trips.new.conn c.query_jobs.new.conn tt _ _ c.in_ok-query_no_trips.ensures
    c.in_err-jobs.field-0.0 _ _ _ _ c.from_residual-in_err-jobs.result c.from_residual-in_err-jobs.ensures.1 c.in_err-jobs.ensures

pub returns-in_err-journeys : goal.returns-in_err-journeys
returns-in_err-journeys g c =
    all_then_passes g.S.Store c.args.conn.now c.query_jobs.new.conn c.query_journeys.new.conn c.in_ok-jobs.jobs _ _
    (all_then g.S.Store c.args.conn.now c.query_no_trips.new.conn c.query_jobs.new.conn tt _ _ c.in_ok-query_no_trips.ensures (Ok c.in_ok-jobs.jobs) _ _ c.in_ok-jobs.ensures)
    c.in_err-journeys.field-0.0 _ _ _ _ c.from_residual-in_err-journeys.result c.from_residual-in_err-journeys.ensures.1 c.in_err-journeys.ensures

pub returns-in_err-acts : goal.returns-in_err-acts
returns-in_err-acts g c =
    all_then_passes g.S.Store c.args.conn.now c.query_journeys.new.conn c.query_acts.new.conn c.in_ok-journeys.journeys _ _
    (all_then g.S.Store c.args.conn.now c.query_jobs.new.conn c.query_journeys.new.conn c.in_ok-jobs.jobs _ _
    (all_then g.S.Store c.args.conn.now c.query_no_trips.new.conn c.query_jobs.new.conn tt _ _ c.in_ok-query_no_trips.ensures (Ok c.in_ok-jobs.jobs) _ _ c.in_ok-jobs.ensures)
    (Ok c.in_ok-journeys.journeys) _ _ c.in_ok-journeys.ensures)
    c.in_err-acts.field-0.0 _ _ _ _ c.from_residual-in_err-acts.result c.from_residual-in_err-acts.ensures.1 c.in_err-acts.ensures

pub returns-in_err-told : goal.returns-in_err-told
returns-in_err-told g c =
    let r = c.from_residual-in_err-told.result in
    all_then_follows g.S.Store c.args.conn.now c.query_journeys.new.conn c.query_acts.new.conn c.in_ok-journeys.journeys _ _
    (all_then g.S.Store c.args.conn.now c.query_jobs.new.conn c.query_journeys.new.conn c.in_ok-jobs.jobs _ _
    (all_then g.S.Store c.args.conn.now c.query_no_trips.new.conn c.query_jobs.new.conn tt _ _ c.in_ok-query_no_trips.ensures (Ok c.in_ok-jobs.jobs) _ _ c.in_ok-jobs.ensures)
    (Ok c.in_ok-journeys.journeys) _ _ c.in_ok-journeys.ensures)
    c.in_ok-acts.acts _ _ _ _ r (passes_no_storage fault.Memory r c.from_residual-in_err-told.ensures.1 (λ is. cc is)) (λ world lawful before acts. runs_short r c.from_residual-in_err-told.ensures.1 _) (λ lists before acts. if_err fault.Memory r c.from_residual-in_err-told.ensures.1 _) c.in_ok-acts.ensures

pub returns-in-None : goal.returns-in-None
returns-in-None g c =
    all_then_follows g.S.Store c.args.conn.now c.query_journeys.new.conn c.query_acts.new.conn c.in_ok-journeys.journeys _ _
    (all_then g.S.Store c.args.conn.now c.query_jobs.new.conn c.query_journeys.new.conn c.in_ok-jobs.jobs _ _
    (all_then g.S.Store c.args.conn.now c.query_no_trips.new.conn c.query_jobs.new.conn tt _ _ c.in_ok-query_no_trips.ensures (Ok c.in_ok-jobs.jobs) _ _ c.in_ok-jobs.ensures)
    (Ok c.in_ok-journeys.journeys) _ _ c.in_ok-journeys.ensures)
    c.in_ok-acts.acts _ _ _ _ (Err fault.Damaged) (λ is. cc is)
    (λ world lawful before acts.
    let wrong : ◌≡◌ {A = Option (map.FinMap name_cmp TripRow)} None (Some (maps_of world).trips) =
    sym c.in-None.is ∙ tells_trips c.in_ok-journeys.journeys c.in_ok-acts.acts c.in_ok-jobs.jobs c.in_ok-told.told c.in_ok-told.ensures world (c.lawful_rows_tell_trips.ensures.all desk_seats world lawful) before.0.1 before.1 acts in
    cc wrong)
    (λ lists before acts. tt) c.in_ok-acts.ensures

pub returns-in-Some : goal.returns-in-Some
returns-in-Some g c =
    let journeys = c.in_ok-journeys.journeys in
    let acts = c.in_ok-acts.acts in
    let jobs = c.in_ok-jobs.jobs in
    let told = c.in_ok-told.told in
    let trips = c.in-Some.trips in
    let just = c.in_ok-told.ensures in
    all_then_follows g.S.Store c.args.conn.now c.query_journeys.new.conn c.query_acts.new.conn journeys _ _
    (all_then g.S.Store c.args.conn.now c.query_jobs.new.conn c.query_journeys.new.conn jobs _ _
    (all_then g.S.Store c.args.conn.now c.query_no_trips.new.conn c.query_jobs.new.conn tt _ _ c.in_ok-query_no_trips.ensures (Ok jobs) _ _ c.in_ok-jobs.ensures)
    (Ok journeys) _ _ c.in_ok-journeys.ensures)
    acts _ _ _ _ (Ok (jobs, trips)) tt
    (λ world lawful before its. (
      before.0.1,
      same_Some trips (maps_of world).trips (sym c.in-Some.is ∙ tells_trips journeys acts jobs told just world (c.lawful_rows_tell_trips.ensures.all desk_seats world lawful) before.0.1 before.1 its),
    ))
    (λ lists before its. (
      before.0.1,
      shows_journeys journeys acts jobs told just trips c.in-Some.is _ before.1,
      shows_acts journeys acts jobs told just trips c.in-Some.is _ its,
      before.0.0,
    )) c.in_ok-acts.ensures
