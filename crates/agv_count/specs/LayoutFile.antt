-- The layout file: a header, and then a record for each node, edge and station, in any order (this project's format).
use Rattle.std.specs.Prelude.{◌≡◌, false, refl, ℕ, List, [], ◌∷◌, length, codes, Bool, ◌&&◌, ◌==◌, nat_lt, nat_le, if◌then◌else◌, Option, Some, None}
use Rattle.std.specs.Char.{is_ascii_digit}
use Rattle.std.specs.List.{list_all}
use Rattle.std.specs.Str.{bytes_eq}
use Rattle.std.specs.Str.Parse.{digits_value}
use Rattle.agv_header.specs.Name.{is_name}
use Rattle.agv_layout.specs.declared.row.LayoutRow.{LayoutRow}
use Rattle.agv_layout.specs.declared.row.LayoutRow.TheVariants.{Node, Edge, Station}
use Rattle.agv_count.specs.Records.{has_fields, records_of}
use Rattle.agv_count.specs.Table.{rows_under}

-- the columns of the header `kind,id,from,to`
abbrev pub layout_columns : List (List ℕ)
layout_columns = codes "kind" ∷ codes "id" ∷ codes "from" ∷ codes "to" ∷ []

-- the field is a capacity: 1 to 3 digits, with or without leading zeros
abbrev pub is_capacity : List ℕ → Bool
is_capacity field = nat_lt 0 (length field) && nat_le (length field) 3 && list_all is_ascii_digit field

-- the row of `node,N1,,`: a name, and two empty fields
unfoldable pub node_row : List ℕ → List ℕ → List ℕ → Option LayoutRow
node_row id from to =
    if is_name id && length from == 0 && length to == 0 then Some (Node id) else None

-- the row of `edge,E12,N1,N2`: a name, the node where the edge starts and the node where it finishes
unfoldable pub edge_row : List ℕ → List ℕ → List ℕ → Option LayoutRow
edge_row id from to =
    if is_name id && is_name from && is_name to then Some (Edge id from to) else None

-- the row of `station,A,N1,1`: a name, the node where it is, and its capacity
unfoldable pub station_row : List ℕ → List ℕ → List ℕ → Option LayoutRow
station_row id from to =
    if is_name id && is_name from && is_capacity to then Some (Station id from (digits_value 10 to)) else None

-- the row of a record, if it is one
unfoldable pub row_in : List (List ℕ) → Option LayoutRow
row_in (kind ∷ id ∷ from ∷ to ∷ []) =
    if bytes_eq kind (codes "node") then node_row id from to
    else (if bytes_eq kind (codes "edge") then edge_row id from to
    else (if bytes_eq kind (codes "station") then station_row id from to
    else None))
row_in other = None

-- the rows of a layout file, if the bytes are such a file
abbrev pub layout_rows_in : List ℕ → Option (List LayoutRow)
layout_rows_in bytes = rows_under layout_columns row_in (records_of bytes)

-- a record without exactly four fields is no row
pub no_layout_row : (fields : List (List ℕ)) → has_fields 4 fields ≡ false → row_in fields ≡ None
unfolding row_in
no_layout_row [] e = refl
no_layout_row (a ∷ []) e = refl
no_layout_row (a ∷ b ∷ []) e = refl
no_layout_row (a ∷ b ∷ c ∷ []) e = refl
no_layout_row (a ∷ b ∷ c ∷ d ∷ []) e = cc e
no_layout_row (a ∷ b ∷ c ∷ d ∷ f ∷ rest) e = refl
