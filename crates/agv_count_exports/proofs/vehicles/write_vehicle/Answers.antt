use Rattle.std.proofs.Common.{◌≡◌, ℕ, List, [], ◌∷◌, ◌++◌, codes, string_bytes, append_assoc}
use Rattle.agv_count_exports.specs.Exports.{rest_text, row_text, trip_text}
use Rattle.agv_count_exports.proofs.vehicles.write_vehicle.Goals as goal

-- the fields as they are written, one after another, are a line
as_line : (before manufacturer serial row trip rest comma end : List ℕ)
    → ((((((before ++ (manufacturer ++ (comma ++ (serial ++ comma)))) ++ row) ++ comma) ++ trip) ++ comma) ++ rest) ++ end
    ≡ before ++ ((manufacturer ++ ((comma ++ serial) ++ ((comma ++ row) ++ ((comma ++ trip) ++ (comma ++ rest))))) ++ end)
as_line before manufacturer serial row trip rest comma end = simp append_assoc

pub returns : goal.returns
returns c =
    let vehicle = c.args.vehicle.now in
    rw (c.in_ok-writeln.ensures.bytes, c.in_ok-write_rest.ensures, c.in_ok-write-3.ensures.bytes, c.in_ok-write_trip.ensures, c.in_ok-write-2.ensures.bytes, c.in_ok-write_row.ensures, c.in_ok-write.ensures.bytes)
    (as_line (string_bytes c.args.out.now) vehicle.key.manufacturer vehicle.key.serial (row_text vehicle.row) (trip_text vehicle.trip) (rest_text vehicle.row.rest) (codes ",") (10 ∷ []))
