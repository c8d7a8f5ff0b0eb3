-- Rows that are written over have the key that they are found by.
use Rattle.std.proofs.Common.{◌≡◌, ◌∙◌, ℕ, true, ◌&&◌, List, refl, ap}
use Rattle.std.specs.Cmp.{tied_itself}
use Rattle.std.specs.Cmp.Lexicographic.{nat_list_cmp_total}
use Rattle.std.specs.Ordering.{is_eq}
use Rattle.sqlite_value.specs.declared.value.Value.TheVariants.{Text}
use Rattle.agv_header.specs.KeyOrder.{key_cmp-total}
use Rattle.agv_header.specs.declared.key.VehicleKey.{VehicleKey}
use Rattle.agv_stock.specs.declared.place.Place.{Place}
use Rattle.agv_stock.specs.declared.place.Place.TheVariants as place
use Rattle.agv_store_rows.specs.declared.journey_row.JourneyRow.{JourneyRow}
use Rattle.agv_world_core.specs.declared.row.JobRow.{JobRow}
use Rattle.agv_world_core.specs.declared.row.VehicleRow.{VehicleRow}
use Rattle.agv_store_rows.specs.Columns.{job_columns, journey_columns, load_columns, vehicle_columns}
use Rattle.agv_store_schema.specs.DeskRows.{is_equal}
use Rattle.agv_store_rows.specs.RowKeys.{name_key, vehicle_key}
use Rattle.agv_store_schema.specs.RowTexts.{columns_deleted}
use Rattle.agv_store_sql.specs.RowUpdates.{IsKeyOf}
use Rattle.agv_store_schema.specs.declared.table_name.TableName.TheVariants as the
use Rattle.agv_store_rows.proofs.KeyTests.{and_true, texts_equal, vehicle_tested}

-- a name is equal to itself
same_id : (id : List ℕ) → (is_equal (Text id) (Text id) && true) ≡ true
same_id id = and_true _ ∙ texts_equal id id ∙ ap is_eq (tied_itself nat_list_cmp_total id)

pub vehicle_key_is : (key : VehicleKey) (row : VehicleRow) → IsKeyOf (columns_deleted the.Vehicle) (vehicle_key key) (vehicle_columns key row)
vehicle_key_is key row = record { itself = vehicle_tested key key row ∙ ap is_eq (tied_itself key_cmp-total key); alike = λ other. refl }

pub journey_key_is : (order : List ℕ) (row : JourneyRow) → IsKeyOf (columns_deleted the.Journey) (name_key order) (journey_columns order row)
journey_key_is order row = record { itself = same_id order; alike = λ other. refl }

pub load_key_is : (id : List ℕ) (where_it_is : Place) → IsKeyOf (columns_deleted the.Load) (name_key id) (load_columns id where_it_is)
load_key_is id (place.Station station) = record { itself = same_id id; alike = λ other. refl }
load_key_is id (place.Vehicle key) = record { itself = same_id id; alike = λ other. refl }
load_key_is id place.Checking = record { itself = same_id id; alike = λ other. refl }
load_key_is id place.Left = record { itself = same_id id; alike = λ other. refl }

pub job_key_is : (id : List ℕ) (row : JobRow) → IsKeyOf (columns_deleted the.Job) (name_key id) (job_columns id row)
job_key_is id row = record { itself = same_id id; alike = λ other. refl }
