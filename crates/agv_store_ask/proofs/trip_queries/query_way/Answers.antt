use Rattle.std.proofs.Common.{Err, Ok, ap, refl, sym, subst, ◌∙◌, ℕ, List}
use Rattle.std.specs.FinMap as map
use Rattle.std.specs.Option.{option_map}
use Rattle.agv_layout.specs.Layout.{edge_of}
use Rattle.agv_world_core.specs.Keys.{leg_cmp}
use Rattle.agv_store_rows.specs.Columns.{leg_in}
use Rattle.agv_store_read.specs.ReadTables.{Reads, read_rows}
use Rattle.agv_store_sql.specs.RowQueries.{FitsColumns, columns_asked, table_asked}
use Rattle.agv_store_schema.specs.SchemaNumbers.{desk_seats}
use Rattle.agv_store_schema.specs.declared.rows_by.RowsBy.TheVariants as by
use Rattle.agv_store_read.proofs.Asking.{follows, passes, then_follows, then_passes}
use Rattle.agv_store_read.proofs.TableReading.{runs_short}
use Rattle.agv_store_ask.proofs.TripAnswers.{begins, fails_there, goes_all, goes_known, goes_on}
use Rattle.agv_store_ask.proofs.trip_queries.query_way.Goals as goal

pub query_rows_by-requires : goal.query_rows_by-requires
query_rows_by-requires g c = subst (FitsColumns (table_asked by.OrderLegs) (columns_asked by.OrderLegs)) (sym c.name_key_values.ensures) refl

pub returns-in_err-rows : goal.returns-in_err-rows
returns-in_err-rows g c = passes g.S.Store c.args.conn.now c.query_rows_by.new.conn c.in_err-rows.field-0.0 _ _ c.from_residual.result c.from_residual.ensures.1 c.in_err-rows.ensures

pub returns-in_err-legs : goal.returns-in_err-legs
returns-in_err-legs g c =
    follows g.S.Store c.args.conn.now c.query_rows_by.new.conn c.in_ok-rows.rows _ _ c.from_residual-in_err-legs.result
    (λ world lawful shown. fails_there world lawful (c.has_consistent_trips.ensures desk_seats world lawful) c.args.order.now _ c.name_key_values.ensures c.in_ok-rows.rows.items shown c.in_err-legs.field-0.0
    (subst (λ rows. Reads {A = map.FinMap leg_cmp (List ℕ)} (Err c.in_err-legs.field-0.0) (read_rows leg_in map.empty rows)) c.as_slice.ensures.value c.in_err-legs.ensures) c.from_residual-in_err-legs.result c.from_residual-in_err-legs.ensures.1 _)
    c.in_ok-rows.ensures

pub loop-id-init : goal.loop-id-init
loop-id-init g c =
    follows g.S.Store c.args.conn.now c.query_rows_by.new.conn c.in_ok-rows.rows _ _ (Ok tt)
    (λ world lawful shown. begins world lawful (c.has_consistent_trips.ensures desk_seats world lawful) c.args.order.now _ c.name_key_values.ensures c.in_ok-rows.rows.items shown c.in_ok-legs.legs
    (subst (λ rows. Reads {A = map.FinMap leg_cmp (List ℕ)} (Ok c.in_ok-legs.legs) (read_rows leg_in map.empty rows)) c.as_slice.ensures.value c.in_ok-legs.ensures)
    c.args.known.now _ _ c.new-edges.ensures.items (c.into_iter-id-iterator.ensures.into_iter_gives ∙ c.iter-id-items.ensures))
    c.in_ok-rows.ensures

pub loop-id-preserved-in-Some-known_edge : goal.loop-id-preserved-in-Some-known_edge
loop-id-preserved-in-Some-known_edge g c =
    follows g.S.Store c.args.conn.now c.loop-id.conn tt _ _ (Ok tt)
    (λ world lawful goes. goes_on c.args.known.now world c.args.order.now c.loop-id.edges.items c.loop-id.id-iterator goes _ _ c.in-Some.ensures.steps _ _
    (c.in-Some-known_edge.ensures.agrees world) c.in_ok-push.ensures.items) c.loop-id.invariant

pub loop-id-preserved : goal.loop-id-preserved
loop-id-preserved g c =
    then_follows g.S.Store c.args.conn.now c.loop-id.conn c.query_edge.new.conn tt _ c.loop-id.invariant c.in_ok-found.found _ _ (Ok tt)
    (λ world lawful goes is. goes_on c.args.known.now world c.args.order.now c.loop-id.edges.items c.loop-id.id-iterator goes _ _ c.in-Some.ensures.steps (edge_of _ c.in-Some-found.ends) _
    (λ _. ap (option_map (edge_of _)) (sym c.in-Some-found.is ∙ is)) c.in_ok-push-in-Some-found.ensures.items) c.in_ok-found.ensures

pub returns-in_err-push : goal.returns-in_err-push
returns-in_err-push g c =
    follows g.S.Store c.args.conn.now c.loop-id.conn tt _ _ c.from_residual-in_err-push.result
    (λ world lawful goes. runs_short c.from_residual-in_err-push.result c.from_residual-in_err-push.ensures.1 _) c.loop-id.invariant

pub returns-in_err-found : goal.returns-in_err-found
returns-in_err-found g c =
    then_passes g.S.Store c.args.conn.now c.loop-id.conn c.query_edge.new.conn tt _ c.loop-id.invariant
    c.in_err-found.field-0.0 _ _ c.from_residual-in_err-found.result c.from_residual-in_err-found.ensures.1 c.in_err-found.ensures

pub returns-in-None-found : goal.returns-in-None-found
returns-in-None-found g c =
    then_follows g.S.Store c.args.conn.now c.loop-id.conn c.query_edge.new.conn tt _ c.loop-id.invariant c.in_ok-found.found _ _ (Err _)
    (λ world lawful goes is. absurd (goes_known c.args.known.now world c.args.order.now c.loop-id.edges.items c.loop-id.id-iterator goes _ _ c.in-Some.ensures.steps (sym c.in-None-found.is ∙ is))) c.in_ok-found.ensures

pub returns-in_err-push-in-Some-found : goal.returns-in_err-push-in-Some-found
returns-in_err-push-in-Some-found g c =
    then_follows g.S.Store c.args.conn.now c.loop-id.conn c.query_edge.new.conn tt _ c.loop-id.invariant c.in_ok-found.found _ _ c.from_residual-in_err-push-in-Some-found.result
    (λ world lawful goes is. runs_short c.from_residual-in_err-push-in-Some-found.result c.from_residual-in_err-push-in-Some-found.ensures.1 _) c.in_ok-found.ensures

pub returns : goal.returns
returns g c =
    follows g.S.Store c.args.conn.now c.loop-id.conn tt _ _ (Ok c.from.result)
    (λ world lawful goes agrees. c.from.ensures ∙ goes_all c.args.known.now world c.args.order.now c.loop-id.edges.items c.loop-id.id-iterator goes c.in-None.ensures.steps.0 agrees) c.loop-id.invariant
