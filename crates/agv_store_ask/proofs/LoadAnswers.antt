-- What the rows of loads that are asked for or counted answer, in a lawful world.
use Rattle.std.proofs.Common.{◌≡◌, ℕ, Bool, List, length, map, count_by, filter, None, Some, IsPermutation, sym, ap, subst, ◌∙◌}
use Rattle.std.proofs.lemmas.List.{length-map}
use Rattle.std.proofs.lemmas.List.Sorted.{IsPermutation-refl, IsPermutation-sym, IsPermutation-trans, length_permutation}
use Rattle.std.proofs.lemmas.List.Sums.{length-filter}
use Rattle.std.specs.FinMap as finite
use Rattle.std.specs.Option.{option_map}
use Rattle.sqlite_value.specs.Order.{Row}
use Rattle.agv_header.specs.declared.key.VehicleKey.{VehicleKey}
use Rattle.agv_layout.specs.declared.station.StationSite.{StationSite}
use Rattle.agv_stock.specs.Rooms.{is_at, is_on, room_left}
use Rattle.agv_stock.specs.declared.place.Place.{Place}
use Rattle.agv_world_core.specs.Lawful.{IsLawful}
use Rattle.agv_world_core.specs.Questions.{loads_at, loads_on, reserved, room_at}
use Rattle.agv_world_core.specs.Maps.{maps_of}
use Rattle.agv_world_core.specs.Worlds.{World}
use Rattle.agv_store_ask.specs.QueriedRows.{loads_shown}
use Rattle.agv_store_rows.specs.Columns.{load_columns}
use Rattle.agv_store_rows.specs.RowKeys.{name_key, vehicle_key}
use Rattle.agv_store_rows.specs.Rows.{TellRows, rows_of}
use Rattle.agv_store_sql.specs.CountQueries.{rows_counted}
use Rattle.agv_store_sql.specs.RowQueries.{rows_asked}
use Rattle.agv_store_schema.specs.SchemaNumbers.{desk_seats}
use Rattle.agv_store_schema.specs.declared.rows_by.RowsBy.TheVariants as by
use Rattle.agv_store_schema.specs.declared.rows_counted.RowsCounted.TheVariants as counted
use Rattle.agv_store_ask.proofs.AskedShown.{shown_asked}
use Rattle.agv_store_rows.proofs.ListsHeld.{alike_itself}

-- as many rows as entries pass
pub as_many : {A : Type 0} (f : A → Row) (p : A → Bool) (xs : List A) (rows : List Row) → IsPermutation rows (map f (filter p xs)) → length rows ≡ count_by p xs
as_many f p xs rows h = sym (length_permutation _ _ h) ∙ length-map (filter p xs) f ∙ length-filter p xs

pub again : {asked shown rows : List Row} → IsPermutation asked shown → IsPermutation asked rows → IsPermutation shown rows
again one two = IsPermutation-trans _ _ _ (IsPermutation-sym _ _ one) two

module _ (world : World) (lawful : IsLawful desk_seats world) where
  abbrev lists : List (List Row)
  lists = rows_of world

  its_own : TellRows lists (maps_of world)
  its_own = alike_itself lists

  -- ---- loads

  pub counts_loads_on : (key : VehicleKey) (values : Row) → values ≡ vehicle_key key → length (rows_counted counted.VehicleLoads values lists) ≡ loads_on world key
  unfolding loads_on
  counts_loads_on key values is =
      ap (λ v. length (rows_counted counted.VehicleLoads v lists)) is
      ∙ as_many (λ (load : List ℕ × Place). load_columns load.0 load.1) (λ load. is_on key load.1) (finite.entries world.places) _ ((shown_asked lists (maps_of world) its_own).loads_on key)

  pub shows_loads_at : (station : List ℕ) (values : Row) → values ≡ name_key station → (rows : List Row) → IsPermutation (rows_asked by.StationLoads values lists) rows
      → IsPermutation (loads_shown (filter (λ (load : List ℕ × Place). is_at station load.1) (finite.entries world.places))) rows
  shows_loads_at station values is rows shown = again ((shown_asked lists (maps_of world) its_own).loads_at station) (subst (λ v. IsPermutation (rows_asked by.StationLoads v lists) rows) is shown)

  pub counts_loads_at : (station : List ℕ) (values : Row) → values ≡ name_key station → length (rows_counted counted.StationLoads values lists) ≡ length (loads_at world station)
  unfolding loads_at
  counts_loads_at station values is =
      length_permutation _ _ (shows_loads_at station values is _ (IsPermutation-refl _))
      ∙ length-map (filter (λ (load : List ℕ × Place). is_at station load.1) (finite.entries world.places)) (λ (load : List ℕ × Place). load_columns load.0 load.1)
      ∙ sym (length-map (filter (λ (load : List ℕ × Place). is_at station load.1) (finite.entries world.places)) (λ (load : List ℕ × Place). load.0))

-- ---- the room of a station

pub room_none : (world : World) (station : List ℕ) → finite.get world.layout.stations station ≡ None → None ≡ room_at world station
unfolding room_at
room_none world station none = ap (option_map (λ (site : StationSite). room_left site.capacity (length (loads_at world station)) (reserved world station))) (sym none)

pub room_some : (world : World) (station : List ℕ) (site : StationSite) (room : ℕ) → finite.get world.layout.stations station ≡ Some site → room ≡ room_left site.capacity (length (loads_at world station)) (reserved world station)
    → Some room ≡ room_at world station
unfolding room_at
room_some world station site room there is = ap Some is ∙ ap (option_map (λ (site : StationSite). room_left site.capacity (length (loads_at world station)) (reserved world station))) (sym there)
