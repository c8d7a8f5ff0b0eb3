use Rattle.std.proofs.Common.{◌≡◌, List, ℕ, Vec, Global, ◌++◌, ap, string_bytes, ◌∙◌}
use Rattle.std.specs.List.{count_by, flat_map}
use Rattle.agv_header.specs.Key.{key_cmp}
use Rattle.agv_header.specs.Name.{name_cmp}
use Rattle.agv_header.specs.declared.key.VehicleKey.{VehicleKey}
use Rattle.agv_layout.specs.declared.station.Station.{Station}
use Rattle.agv_stock.specs.declared.place.Place.{Place}
use Rattle.agv_count.specs.Reports.{checking_part, left_part, loads_where, station_part, stock_text, vehicle_part}
use Rattle.agv_stock.specs.Rooms.{has_left, is_at as is_at_station, is_on, is_checking}
use Rattle.agv_count.specs.LoadsByPlace.{loads_at}
use Rattle.agv_count.specs.declared.loads_by_place.LoadsByPlace.{LoadsByPlace}
use Rattle.agv_count.proofs.Pieces.{four_parts}
use Rattle.agv_count.proofs.stock.stock_report.Goals as goal

-- what is written of loads by where they stand
of_loads_by_place : (stations : List (Station × ℕ)) (loads : List (List ℕ × Place)) (vehicles : List VehicleKey) (by_place : LoadsByPlace)
    → ((id : List ℕ) → loads_at name_cmp by_place.stations id ≡ loads_where (is_at_station id) loads) → ((key : VehicleKey) → loads_at key_cmp by_place.vehicles key ≡ loads_where (is_on key) loads)
    → by_place.checking.items ≡ loads_where is_checking loads
    → (flat_map (λ s. station_part (loads_at name_cmp by_place.stations s.0.id) s.0 s.1) stations ++ (checking_part by_place.checking.items ++ (flat_map (λ key. vehicle_part (loads_at key_cmp by_place.vehicles key) key) vehicles ++ left_part (count_by (λ l. has_left l.1) loads))))
    ≡ stock_text stations loads vehicles
unfolding stock_text
of_loads_by_place stations loads vehicles by_place at on checking = λ i.
    flat_map (λ s. station_part (at s.0.id i) s.0 s.1) stations ++ (checking_part (checking i) ++ (flat_map (λ key. vehicle_part (on key i) key) vehicles ++ left_part (count_by (λ l. has_left l.1) loads)))

pub returns : goal.returns
returns c =
    let its = c.in_ok-by_place.ensures in
    ap (λ (v : Vec ℕ Global). v.items) c.into_bytes.ensures.value
    ∙ four_parts _ _ _ _ _ _ _ _ _ c.new-out.ensures.bytes c.in_ok-write_stations.ensures
    (c.in_ok-write_checking.ensures ∙ ap (λ (here : List (List ℕ)). string_bytes c.write_stations.new.out ++ checking_part here) c.deref.ensures.value)
    c.in_ok-write_vehicles.ensures
    (c.in_ok-write_left.ensures ∙ ap (λ (gone : ℕ). string_bytes c.write_vehicles.new.out ++ left_part gone) c.left_count.ensures)
    ∙ of_loads_by_place c.args.stations.now c.args.loads.now c.args.vehicles.now c.in_ok-by_place.by_place its.stations its.vehicles its.checking
