use Rattle.std.proofs.Common.{[], ◌∷◌, ◌++◌, List}
use Rattle.std.specs.FinMap as finite
use Rattle.std.specs.List.{flat_map}
use Rattle.sqlite.specs.State.{Survives}
use Rattle.sqlite.proofs.StateLemmas.{survives_then}
use Rattle.sqlite_value.specs.Order.{Row}
use Rattle.agv_store_schema.specs.declared.table_name.TableName.TheVariants as the
use Rattle.agv_store_schema.specs.DeskRows.{Makes}
use Rattle.agv_store_migrate.specs.MoveStatements.{capacity_inserted, meta_emptied, number_inserted, row_statements, trip_emptied, trip_inserted}
use Rattle.agv_store_migrate.specs.Moved.{for_each, numbered_anew, with_journey, with_vehicle_capacity, without_all}
use Rattle.agv_store_sql.specs.WritesInside.{WritesInside}
use Rattle.agv_store_sql.specs.Refusals.{Statement}
use Rattle.agv_store_sql.proofs.Refusing.{at, ends_as, ends_then, fails_early, fails_then, runs_then}
use Rattle.agv_store_sql.proofs.WritesThen.{writes_then}
use Rattle.agv_store_migrate.proofs.MovingEach.{then_made}
use Rattle.agv_store_sql.proofs.DeskStatements.{makes_then}
use Rattle.agv_store_migrate.proofs.row_moving.move_rows.Goals as goal

pub returns-clause-made : goal.returns-clause-made
returns-clause-made g c =
    let tables = c.args.tables.now in
    let first = c.args.tx.now in
    let capacities = for_each with_vehicle_capacity (finite.entries tables.vehicles) in
    let numbered = λ (lists : List (List Row)). numbered_anew (without_all the.Trip lists) in
    let one : WritesInside g.S.Store first c.number_anew.new.tx (Makes numbered) =
    writes_then g.S.Store c.in_ok-empty_trips.ensures.made c.in_ok-number_anew.ensures.made (λ _. makes_then (without_all the.Trip) numbered_anew _ _ _) in
    let two : WritesInside g.S.Store first c.add_capacities.new.tx (Makes (λ lists. capacities (numbered lists))) =
    writes_then g.S.Store one c.in_ok-add_capacities.ensures.made (λ _ before adds. makes_then numbered capacities _ _ _ before (adds before.mode)) in
    writes_then g.S.Store two c.add_trips.ensures.made (λ _ before adds. then_made (λ lists. capacities (numbered lists)) (for_each with_journey (finite.entries tables.trips)) _ _ _ c.add_trips.result before (adds before.mode))

-- the statements up to the number
abbrev up_to_number : List Statement
up_to_number = trip_emptied ∷ meta_emptied ∷ number_inserted ∷ []

pub returns-in_err-empty_trips-clause-ends : goal.returns-in_err-empty_trips-clause-ends
returns-in_err-empty_trips-clause-ends g c few =
    let capacities = flat_map capacity_inserted (finite.entries c.args.tables.now.vehicles) in
    let trips = flat_map trip_inserted (finite.entries c.args.tables.now.trips) in
    let e = c.in_err-empty_trips.field-0.0 in
    ends_as g.S.Store c.args.tx.now c.empty_trips.new.tx (row_statements c.args.tables.now) e c.from_residual.result c.from_residual.ensures.1
    (fails_early g.S.Store c.args.tx.now c.empty_trips.new.tx (trip_emptied ∷ []) (meta_emptied ∷ number_inserted ∷ (capacities ++ trips)) e c.in_err-empty_trips.ensures.ends)

pub returns-in_err-number_anew-clause-ends : goal.returns-in_err-number_anew-clause-ends
returns-in_err-number_anew-clause-ends g c few =
    let capacities = flat_map capacity_inserted (finite.entries c.args.tables.now.vehicles) in
    let trips = flat_map trip_inserted (finite.entries c.args.tables.now.trips) in
    let e = c.in_err-number_anew.field-0.0 in
    ends_as g.S.Store c.args.tx.now c.number_anew.new.tx (row_statements c.args.tables.now) e c.from_residual-in_err-number_anew.result c.from_residual-in_err-number_anew.ensures.1
    (fails_early g.S.Store c.args.tx.now c.number_anew.new.tx up_to_number (capacities ++ trips) e
    (fails_then g.S.Store c.args.tx.now c.empty_trips.new.tx c.number_anew.new.tx (trip_emptied ∷ []) (meta_emptied ∷ number_inserted ∷ []) c.empty_trips.ensures.made.survives c.number_anew.ensures.made.survives
    c.in_ok-empty_trips.ensures.ends e c.in_err-number_anew.ensures.ends))

pub returns-in_err-add_capacities-clause-ends : goal.returns-in_err-add_capacities-clause-ends
returns-in_err-add_capacities-clause-ends g c few =
    let first = c.args.tx.now in
    let capacities = flat_map capacity_inserted (finite.entries c.args.tables.now.vehicles) in
    let trips = flat_map trip_inserted (finite.entries c.args.tables.now.trips) in
    let e = c.in_err-add_capacities.field-0.0 in
    let one = runs_then g.S.Store first c.empty_trips.new.tx c.number_anew.new.tx (trip_emptied ∷ []) (meta_emptied ∷ number_inserted ∷ []) c.empty_trips.ensures.made.survives c.number_anew.ensures.made.survives
    c.in_ok-empty_trips.ensures.ends c.in_ok-number_anew.ensures.ends in
    let so_far : Survives (at g.S.Store first) (at g.S.Store c.number_anew.new.tx) (λ _. ⊥) = survives_then _ _ _ _ _ (λ _. ⊥) (λ _ db none. none) (λ _ db none. none) c.empty_trips.ensures.made.survives c.number_anew.ensures.made.survives in
    ends_as g.S.Store first c.add_capacities.new.tx (row_statements c.args.tables.now) e c.from_residual-in_err-add_capacities.result c.from_residual-in_err-add_capacities.ensures.1
    (fails_early g.S.Store first c.add_capacities.new.tx (up_to_number ++ capacities) trips e
    (fails_then g.S.Store first c.number_anew.new.tx c.add_capacities.new.tx up_to_number capacities so_far c.add_capacities.ensures.made.survives one e c.in_err-add_capacities.ensures.ends))

pub returns-clause-ends : goal.returns-clause-ends
returns-clause-ends g c few =
    let first = c.args.tx.now in
    let capacities = flat_map capacity_inserted (finite.entries c.args.tables.now.vehicles) in
    let trips = flat_map trip_inserted (finite.entries c.args.tables.now.trips) in
    let one = runs_then g.S.Store first c.empty_trips.new.tx c.number_anew.new.tx (trip_emptied ∷ []) (meta_emptied ∷ number_inserted ∷ []) c.empty_trips.ensures.made.survives c.number_anew.ensures.made.survives
    c.in_ok-empty_trips.ensures.ends c.in_ok-number_anew.ensures.ends in
    let so_far : Survives (at g.S.Store first) (at g.S.Store c.number_anew.new.tx) (λ _. ⊥) = survives_then _ _ _ _ _ (λ _. ⊥) (λ _ db none. none) (λ _ db none. none) c.empty_trips.ensures.made.survives c.number_anew.ensures.made.survives in
    let two = runs_then g.S.Store first c.number_anew.new.tx c.add_capacities.new.tx up_to_number capacities so_far c.add_capacities.ensures.made.survives one c.in_ok-add_capacities.ensures.ends in
    let before : Survives (at g.S.Store first) (at g.S.Store c.add_capacities.new.tx) (λ _. ⊥) = survives_then _ _ _ _ _ (λ _. ⊥) (λ _ db none. none) (λ _ db none. none) so_far c.add_capacities.ensures.made.survives in
    ends_then g.S.Store first c.add_capacities.new.tx c.add_trips.new.tx (up_to_number ++ capacities) trips before c.add_trips.ensures.made.survives two c.add_trips.result (c.add_trips.ensures.ends few)
