-- How an open trip of one job is written into the columns of the table `trip` of the first schema, and how it is read back.
use Rattle.std.specs.Prelude.{ℕ, List, [], ◌∷◌, Option, Some}
use Rattle.std.specs.FinMap as finite
use Rattle.sqlite.specs.Values.{or_null}
use Rattle.sqlite_value.specs.Order.{Row, column}
use Rattle.sqlite_value.specs.declared.value.Value.TheVariants.{Text}
use Rattle.agv_header.specs.Name.{name_cmp}
use Rattle.agv_message_core.specs.Status.{status_name}
use Rattle.agv_world_core.specs.declared.row.JobRow.{JobRow}
use Rattle.agv_world_core.specs.declared.row.TripRow.{TripRow}
use Rattle.agv_store_rows.specs.Columns.{if_columns, key_in}
use Rattle.agv_store_rows.specs.ValueEncodings.{if_some, maybe_in, name_in, number_cell, number_in, status_in}
use Rattle.agv_store_migrate.specs.TripLines.{trip_told}
use Rattle.agv_store_migrate.specs.declared.trip_line.TripLine.{TripLine}

-- ---- trip: order_id, manufacturer, serial, job, start, first, base, sent, confirmed, seen, pick_at, drop_at, pick_status, drop_status

abbrev pub trip_columns : TripLine → Row
trip_columns line =
    Text line.order ∷ Text line.vehicle.manufacturer ∷ Text line.vehicle.serial ∷ Text line.job ∷ Text line.start
    ∷ number_cell line.first ∷ number_cell line.base ∷ number_cell line.sent ∷ or_null number_cell line.confirmed ∷ number_cell line.seen
    ∷ number_cell line.pick_at ∷ number_cell line.drop_at ∷ Text (status_name line.pick_status) ∷ Text (status_name line.drop_status) ∷ []

unfoldable pub trip_in : Row → Option TripLine
trip_in row = if_columns 14 row (
    if_some (name_in (column row 0)) (λ order.
    if_some (key_in (column row 1) (column row 2)) (λ vehicle.
    if_some (name_in (column row 3)) (λ job.
    if_some (name_in (column row 4)) (λ start.
    if_some (number_in (column row 5)) (λ first.
    if_some (number_in (column row 6)) (λ base.
    if_some (number_in (column row 7)) (λ sent.
    if_some (maybe_in number_in (column row 8)) (λ confirmed.
    if_some (number_in (column row 9)) (λ seen.
    if_some (number_in (column row 10)) (λ pick_at.
    if_some (number_in (column row 11)) (λ drop_at.
    if_some (status_in (column row 12)) (λ pick_status.
    if_some (status_in (column row 13)) (λ drop_status.
    Some (record {
      order = order;
      vehicle = vehicle;
      job = job;
      start = start;
      first = first;
      base = base;
      sent = sent;
      confirmed = confirmed;
      seen = seen;
      pick_at = pick_at;
      drop_at = drop_at;
      pick_status = pick_status;
      drop_status = drop_status;
    })))))))))))))))

-- the order id and the trip that a row encodes, if its job is one of these
abbrev pub trip_with : finite.FinMap name_cmp JobRow → Row → Option (List ℕ × TripRow)
trip_with jobs row = if_some (trip_in row) (λ line. if_some (finite.get jobs line.job) (λ job. Some (line.order, trip_told line job)))
