-- The exact bytes of the reports and the exports (this project's formats).
use Rattle.std.specs.Prelude.{ℕ, Bool, List, [], ◌∷◌, ◌++◌, length, filter, codes, decimal}
use Rattle.std.specs.List.{count_by, flat_map}
use Rattle.std.specs.Map.{keys_of}
use Rattle.agv_header.specs.declared.key.Thing.{Thing}
use Rattle.agv_header.specs.declared.key.Thing.TheVariants as thing
use Rattle.agv_header.specs.declared.key.VehicleKey.{VehicleKey}
use Rattle.agv_layout.specs.declared.row.LayoutRow.{LayoutRow}
use Rattle.agv_layout.specs.declared.row.LayoutRow.TheVariants as row
use Rattle.agv_layout.specs.declared.station.Station.{Station}
use Rattle.agv_stock.specs.Rooms.{is_at, is_on, is_checking, has_left}
use Rattle.agv_stock.specs.declared.place.Place.{Place}
use Rattle.agv_stock.specs.declared.place.Place.TheVariants as place

-- a line: the text and LF, without CR
abbrev pub line : List ℕ → List ℕ
line text = text ++ 10 ∷ []

-- a vehicle, as `KIT/0001`
abbrev pub key_text : VehicleKey → List ℕ
key_text key = key.manufacturer ++ (codes "/" ++ key.serial)

-- the loads whose place passes the test, in the order of the list
abbrev pub loads_where : (Place → Bool) → List (List ℕ × Place) → List (List ℕ)
loads_where is_there loads = keys_of (filter (λ l. is_there l.1) loads)

-- loads, each on its own line after two blanks
abbrev pub listed : List (List ℕ) → List ℕ
listed loads = flat_map (λ load. line (codes "  " ++ load)) loads

-- the part of a station: `station A at N1: 1 of 1, reserved 0`, and the loads there
abbrev pub station_part : List (List ℕ) → Station → ℕ → List ℕ
station_part here station reserved =
    line (codes "station " ++ (station.id ++ (codes " at " ++ (station.node ++ (codes ": " ++ (decimal (length here) ++ (codes " of " ++ (decimal station.capacity ++ (codes ", reserved " ++ decimal reserved)))))))))
    ++ listed here

-- the part of the checking place: `checking: 0`, and the loads there
abbrev pub checking_part : List (List ℕ) → List ℕ
checking_part here = line (codes "checking: " ++ decimal (length here)) ++ listed here

-- the part of a vehicle: `vehicle KIT/0001: 0`, and the loads on it
abbrev pub vehicle_part : List (List ℕ) → VehicleKey → List ℕ
vehicle_part here key = line (codes "vehicle " ++ (key_text key ++ (codes ": " ++ decimal (length here)))) ++ listed here

-- the number of loads that have left: `left: 0`
abbrev pub left_part : ℕ → List ℕ
left_part gone = line (codes "left: " ++ decimal gone)

-- the report of the stock: the stations, the checking place and the vehicles, each with its loads, and the number of loads that have left
unfoldable pub stock_text : List (Station × ℕ) → List (List ℕ × Place) → List VehicleKey → List ℕ
stock_text stations loads vehicles =
    flat_map (λ s. station_part (loads_where (is_at s.0.id) loads) s.0 s.1) stations
    ++ (checking_part (loads_where is_checking loads)
    ++ (flat_map (λ key. vehicle_part (loads_where (is_on key) loads) key) vehicles
    ++ left_part (count_by (λ l. has_left l.1) loads)))

-- a node or an edge, as `node N2` or `edge E12`
abbrev pub thing_text : Thing → List ℕ
thing_text (thing.Node id) = codes "node " ++ id
thing_text (thing.Edge id) = codes "edge " ++ id

-- the line of a hold, as `node N2 KIT/0001`
abbrev pub hold_line : Thing × VehicleKey → List ℕ
hold_line hold = line (thing_text hold.0 ++ (codes " " ++ key_text hold.1))

-- the report of the holds: a line for each, and how many of the nodes and edges are held, as `held 1 of 7`
abbrev pub hold_text : List (Thing × VehicleKey) → ℕ → List ℕ
hold_text holds things = flat_map hold_line holds ++ line (codes "held " ++ (decimal (length holds) ++ (codes " of " ++ decimal things)))

-- a place, as `station,A`, `vehicle,KIT/0001`, `checking,` or `left,`
abbrev pub place_text : Place → List ℕ
place_text (place.Station id) = codes "station," ++ id
place_text (place.Vehicle key) = codes "vehicle," ++ key_text key
place_text place.Checking = codes "checking,"
place_text place.Left = codes "left,"

-- the line of a load, as `L1,station,A`
abbrev pub load_line : List ℕ × Place → List ℕ
load_line load = line (load.0 ++ (codes "," ++ place_text load.1))

-- the export of loads: the header `load,place,at`, and a line for each load
abbrev pub loads_text : List (List ℕ × Place) → List ℕ
loads_text loads = line (codes "load,place,at") ++ flat_map load_line loads

-- the line of a row of a layout, as `node,N1,,`, `edge,E12,N1,N2` or `station,A,N1,1`
abbrev pub layout_line : LayoutRow → List ℕ
layout_line (row.Node id) = line (codes "node," ++ (id ++ codes ",,"))
layout_line (row.Edge id start finish) = line (codes "edge," ++ (id ++ (codes "," ++ (start ++ (codes "," ++ finish)))))
layout_line (row.Station id node capacity) = line (codes "station," ++ (id ++ (codes "," ++ (node ++ (codes "," ++ decimal capacity)))))

-- the export of a layout: the header `kind,id,from,to`, and a line for each row
abbrev pub layout_text : List LayoutRow → List ℕ
layout_text rows = line (codes "kind,id,from,to") ++ flat_map layout_line rows
