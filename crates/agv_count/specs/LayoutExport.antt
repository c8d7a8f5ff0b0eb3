-- The rows that are read back as they were exported.
use Rattle.std.specs.Prelude.{◌≤◌, List, All}
use Rattle.agv_header.specs.Name.{IsName}
use Rattle.agv_layout.specs.declared.row.LayoutRow.{LayoutRow}
use Rattle.agv_layout.specs.declared.row.LayoutRow.TheVariants as row

-- the names of the row are names, and a station's capacity is at most 999, so that it has 1 to 3 digits
abbrev pub IsListed : LayoutRow → Type 0
IsListed (row.Node id) = IsName id
IsListed (row.Edge id start finish) = IsName id × IsName start × IsName finish
IsListed (row.Station id node capacity) = IsName id × IsName node × (capacity ≤ 999)

-- each of the rows is such a row
abbrev pub AreListed : List LayoutRow → Type 0
AreListed rows = All IsListed rows
