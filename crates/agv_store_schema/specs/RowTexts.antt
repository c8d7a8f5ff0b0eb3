-- The SQL texts that insert a row into a table, delete the rows of a key, and select the row of a key.
use Rattle.std.specs.Prelude.{ℕ, Bool, true, false, List, [], ◌∷◌, codes}
use Rattle.agv_store_schema.specs.DeskRows.{table_for}
use Rattle.agv_store_schema.specs.declared.table_name.TableName.{TableName}
use Rattle.agv_store_schema.specs.declared.table_name.TableName.TheVariants as the

-- rows of the table are inserted one by one; the only row of `meta` is inserted when that table is created, and `trip` stays empty
abbrev pub is_written : TableName → Bool
is_written the.Meta = false
is_written the.Trip = false
is_written _ = true

-- rows of the table are looked up by their key
abbrev pub is_looked_up : TableName → Bool
is_looked_up the.Meta = false
is_looked_up the.Trip = false
is_looked_up the.Leg = false
is_looked_up the.Journey = false
is_looked_up the.Act = false
is_looked_up _ = true

-- the INSERT for one row, whose columns are the parameters; empty for a table without such a text
abbrev pub insertion_text : TableName → List ℕ
insertion_text the.Node = codes "INSERT INTO node (id) VALUES (?1)"
insertion_text the.Edge = codes "INSERT INTO edge (id, start, finish) VALUES (?1, ?2, ?3)"
insertion_text the.Station = codes "INSERT INTO station (id, node, capacity) VALUES (?1, ?2, ?3)"
insertion_text the.Vehicle = codes "INSERT INTO vehicle (manufacturer, serial, node, rest_edge, rest_node, last_header, reported, ready, paused, order_header, order_at, instant_header, instant_at, pending) VALUES (?1, ?2, ?3, ?4, ?5, ?6, ?7, ?8, ?9, ?10, ?11, ?12, ?13, ?14)"
insertion_text the.Capacity = codes "INSERT INTO capacity (manufacturer, serial, capacity) VALUES (?1, ?2, ?3)"
insertion_text the.Journey = codes "INSERT INTO journey (order_id, manufacturer, serial, start, first, base, sent, confirmed, seen) VALUES (?1, ?2, ?3, ?4, ?5, ?6, ?7, ?8, ?9)"
insertion_text the.Act = codes "INSERT INTO act (order_id, n, job, kind, place_at, status) VALUES (?1, ?2, ?3, ?4, ?5, ?6)"
insertion_text the.Leg = codes "INSERT INTO leg (order_id, k, edge) VALUES (?1, ?2, ?3)"
insertion_text the.Load = codes "INSERT INTO load (id, kind, station, manufacturer, serial) VALUES (?1, ?2, ?3, ?4, ?5)"
insertion_text the.Job = codes "INSERT INTO job (id, load, origin, target, phase) VALUES (?1, ?2, ?3, ?4, ?5)"
insertion_text the.Hold = codes "INSERT INTO hold (kind, id, manufacturer, serial) VALUES (?1, ?2, ?3, ?4)"
insertion_text the.Used = codes "INSERT INTO used (kind, id) VALUES (?1, ?2)"
insertion_text _ = []

-- the columns by which rows are deleted: those of the table's primary key, except that all acts of an order are deleted together
abbrev pub columns_deleted : TableName → List ℕ
columns_deleted the.Act = 1 ∷ []
columns_deleted name = (table_for name).primary

-- the DELETE whose parameters are the values of these columns; empty for a table without such a text
abbrev pub deletion_text : TableName → List ℕ
deletion_text the.Node = codes "DELETE FROM node WHERE id = ?1"
deletion_text the.Edge = codes "DELETE FROM edge WHERE id = ?1"
deletion_text the.Station = codes "DELETE FROM station WHERE id = ?1"
deletion_text the.Vehicle = codes "DELETE FROM vehicle WHERE manufacturer = ?1 AND serial = ?2"
deletion_text the.Capacity = codes "DELETE FROM capacity WHERE manufacturer = ?1 AND serial = ?2"
deletion_text the.Journey = codes "DELETE FROM journey WHERE order_id = ?1"
deletion_text the.Act = codes "DELETE FROM act WHERE order_id = ?1"
deletion_text the.Leg = codes "DELETE FROM leg WHERE order_id = ?1 AND k = ?2"
deletion_text the.Load = codes "DELETE FROM load WHERE id = ?1"
deletion_text the.Job = codes "DELETE FROM job WHERE id = ?1"
deletion_text the.Hold = codes "DELETE FROM hold WHERE kind = ?1 AND id = ?2"
deletion_text the.Used = codes "DELETE FROM used WHERE kind = ?1 AND id = ?2"
deletion_text _ = []

-- the SELECT by primary key, whose columns are the parameters; empty for a table without such a text
abbrev pub look_up_text : TableName → List ℕ
look_up_text the.Node = codes "SELECT id FROM node WHERE id = ?1"
look_up_text the.Edge = codes "SELECT id, start, finish FROM edge WHERE id = ?1"
look_up_text the.Station = codes "SELECT id, node, capacity FROM station WHERE id = ?1"
look_up_text the.Vehicle = codes "SELECT manufacturer, serial, node, rest_edge, rest_node, last_header, reported, ready, paused, order_header, order_at, instant_header, instant_at, pending FROM vehicle WHERE manufacturer = ?1 AND serial = ?2"
look_up_text the.Capacity = codes "SELECT manufacturer, serial, capacity FROM capacity WHERE manufacturer = ?1 AND serial = ?2"
look_up_text the.Load = codes "SELECT id, kind, station, manufacturer, serial FROM load WHERE id = ?1"
look_up_text the.Job = codes "SELECT id, load, origin, target, phase FROM job WHERE id = ?1"
look_up_text the.Hold = codes "SELECT kind, id, manufacturer, serial FROM hold WHERE kind = ?1 AND id = ?2"
look_up_text the.Used = codes "SELECT kind, id FROM used WHERE kind = ?1 AND id = ?2"
look_up_text _ = []
