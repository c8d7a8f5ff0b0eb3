use Rattle.std.proofs.Common.{◌∙◌, Err, Ok, subst, sym}
use Rattle.std.proofs.lemmas.Option.{same_Some}
use Rattle.std.specs.FinMap as map
use Rattle.agv_header.specs.Key.{key_cmp}
use Rattle.agv_world_core.specs.Maps.{maps_of}
use Rattle.agv_world_core.specs.declared.row.VehicleRow.{VehicleRow}
use Rattle.agv_store_rows.specs.DecodedTrips.{vehicle_with}
use Rattle.agv_store_read.specs.ReadTables.{Reads, read_rows}
use Rattle.agv_store_read.specs.declared.open_fault.OpenFault.TheVariants as fault
use Rattle.agv_store_read.proofs.AskingAll.{all_passes, all_then_follows, all_then_passes, if_err, passes_no_storage, reads_no_storage}
use Rattle.agv_store_read_tables.proofs.CapacityTables.{none_left_over, vehicles_shown}
use Rattle.agv_store_read_tables.proofs.TableAnswers.{reads_vehicles}
use Rattle.agv_store_read.proofs.TableReading.{reads_fails}
use Rattle.agv_store_read_tables.proofs.table_reading.query_vehicles.Goals as goal

pub returns-in_err-capacities : goal.returns-in_err-capacities
returns-in_err-capacities g c = all_passes g.S.Store c.args.conn.now c.query_capacities.new.conn c.in_err-capacities.field-0.0 _ _ _ _ c.from_residual.result c.from_residual.ensures.1 c.in_err-capacities.ensures

pub returns-in_err-rows : goal.returns-in_err-rows
returns-in_err-rows g c =
    all_then_passes g.S.Store c.args.conn.now c.query_capacities.new.conn c.query_all_rows.new.conn c.in_ok-capacities.capacities _ _ c.in_ok-capacities.ensures
    c.in_err-rows.field-0.0 _ _ _ _ c.from_residual-in_err-rows.result c.from_residual-in_err-rows.ensures.1 c.in_err-rows.ensures

pub returns-in_err-vehicles : goal.returns-in_err-vehicles
returns-in_err-vehicles g c =
    let r = c.from_residual-in_err-vehicles.result in
    let capacities = c.in_ok-capacities.capacities in
    let read = subst (λ rows. Reads {A = map.FinMap key_cmp VehicleRow} (Err c.in_err-vehicles.field-0.0) (read_rows (vehicle_with capacities) map.empty rows)) c.as_slice.ensures.value c.in_err-vehicles.ensures in
    all_then_follows g.S.Store c.args.conn.now c.query_capacities.new.conn c.query_all_rows.new.conn capacities _ _ c.in_ok-capacities.ensures
    c.in_ok-rows.rows _ _ _ _ r
    (passes_no_storage c.in_err-vehicles.field-0.0 r c.from_residual-in_err-vehicles.ensures.1
    (reads_no_storage {A = map.FinMap key_cmp VehicleRow} (Err c.in_err-vehicles.field-0.0) (read_rows (vehicle_with capacities) map.empty c.in_ok-rows.rows.items) read))
    (λ world lawful one two. reads_fails (maps_of world).vehicles c.in_err-vehicles.field-0.0 _ read (reads_vehicles world lawful c.in_ok-rows.rows.items capacities one two) r c.from_residual-in_err-vehicles.ensures.1 _)
    (λ lists one two. if_err c.in_err-vehicles.field-0.0 r c.from_residual-in_err-vehicles.ensures.1 _) c.in_ok-rows.ensures

pub returns-then-are_of_vehicles : goal.returns-then-are_of_vehicles
returns-then-are_of_vehicles g c =
    let capacities = c.in_ok-capacities.capacities in
    let vehicles = c.in_ok-vehicles.vehicles in
    let read = subst (λ rows. Reads {A = map.FinMap key_cmp VehicleRow} (Ok vehicles) (read_rows (vehicle_with capacities) map.empty rows)) c.as_slice.ensures.value c.in_ok-vehicles.ensures in
    all_then_follows g.S.Store c.args.conn.now c.query_capacities.new.conn c.query_all_rows.new.conn capacities _ _ c.in_ok-capacities.ensures
    c.in_ok-rows.rows _ _ _ _ (Ok vehicles) tt
    (λ world lawful one two. same_Some vehicles (maps_of world).vehicles (sym read ∙ reads_vehicles world lawful c.in_ok-rows.rows.items capacities one two))
    (λ lists one two. vehicles_shown capacities vehicles c.in_ok-rows.rows.items _ _ read (sym c.are_of_vehicles.ensures ∙ c.if-are_of_vehicles.true) two one) c.in_ok-rows.ensures

pub returns : goal.returns
returns g c =
    let capacities = c.in_ok-capacities.capacities in
    let vehicles = c.in_ok-vehicles.vehicles in
    let read = subst (λ rows. Reads {A = map.FinMap key_cmp VehicleRow} (Ok vehicles) (read_rows (vehicle_with capacities) map.empty rows)) c.as_slice.ensures.value c.in_ok-vehicles.ensures in
    all_then_follows g.S.Store c.args.conn.now c.query_capacities.new.conn c.query_all_rows.new.conn capacities _ _ c.in_ok-capacities.ensures
    c.in_ok-rows.rows _ _ _ _ (Err fault.Damaged) (λ is. cc is)
    (λ world lawful one two.
    none_left_over (maps_of world).vehicles vehicles capacities (same_Some vehicles (maps_of world).vehicles (sym read ∙ reads_vehicles world lawful c.in_ok-rows.rows.items capacities one two)) one (sym c.are_of_vehicles.ensures ∙ c.if-are_of_vehicles.false))
    (λ lists one two. tt) c.in_ok-rows.ensures
