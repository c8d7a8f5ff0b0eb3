-- The columns of a row of the world fit its table.
use Rattle.std.proofs.Common.{◌≡◌, ℕ, true, List, Option, Some, None, refl}
use Rattle.sqlite.specs.Values.{or_null}
use Rattle.sqlite_value.specs.declared.value.Value.{Value}
use Rattle.sqlite_value.specs.declared.value.Value.TheVariants.{Null, Text}
use Rattle.sqlite_schema.specs.declared.schema.Kind.{Kind}
use Rattle.sqlite_schema.specs.declared.schema.Kind.TheVariants as kind
use Rattle.agv_header.specs.declared.key.Thing.{Thing}
use Rattle.agv_header.specs.declared.key.Thing.TheVariants as thing
use Rattle.agv_header.specs.declared.key.VehicleKey.{VehicleKey}
use Rattle.agv_message_core.specs.Instant.{instant_name}
use Rattle.agv_stock.specs.declared.place.Place.{Place}
use Rattle.agv_stock.specs.declared.place.Place.TheVariants as place
use Rattle.agv_store_rows.specs.declared.journey_row.JourneyRow.{JourneyRow}
use Rattle.agv_world_core.specs.declared.row.VehicleRow.{VehicleRow}
use Rattle.agv_store_rows.specs.ValueEncodings.{number_cell}
use Rattle.agv_store_rows.specs.Columns.{vehicle_columns, journey_columns, load_columns, hold_columns}
use Rattle.agv_store_schema.specs.DeskRows.{FitsTable, is_of_kind}
use Rattle.agv_store_schema.specs.declared.table_name.TableName.TheVariants as the

maybe_fits : {X : Type 0} (k : Kind) (f : X → Value) (o : Option X) → is_of_kind k Null ≡ true → ((x : X) → is_of_kind k (f x) ≡ true) → is_of_kind k (or_null f o) ≡ true
maybe_fits k f None null each = null
maybe_fits k f (Some x) null each = each x

pub vehicle_fits : (key : VehicleKey) (row : VehicleRow) → FitsTable the.Vehicle (vehicle_columns key row)
vehicle_fits key row = rw (
  maybe_fits kind.Text (λ (rest : List ℕ × List ℕ). Text rest.0) row.rest refl (λ _. refl),
  maybe_fits kind.Text (λ (rest : List ℕ × List ℕ). Text rest.1) row.rest refl (λ _. refl),
  maybe_fits kind.Integer number_cell row.last_header refl (λ _. refl),
  maybe_fits kind.Text Text row.reported refl (λ _. refl),
  maybe_fits kind.Text (λ what. Text (instant_name what)) row.pending refl (λ _. refl),
)

pub journey_fits : (order : List ℕ) (row : JourneyRow) → FitsTable the.Journey (journey_columns order row)
journey_fits order row = rw (maybe_fits kind.Integer number_cell row.confirmed refl (λ _. refl))

pub load_fits : (id : List ℕ) (where_it_is : Place) → FitsTable the.Load (load_columns id where_it_is)
load_fits id (place.Station station) = refl
load_fits id (place.Vehicle key) = refl
load_fits id place.Checking = refl
load_fits id place.Left = refl

pub hold_fits : (what : Thing) (key : VehicleKey) → FitsTable the.Hold (hold_columns what key)
hold_fits (thing.Node id) key = refl
hold_fits (thing.Edge id) key = refl
