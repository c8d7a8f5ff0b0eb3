-- The export of loads is what the writer of `csv` writes: no field of it needs quotes.
use Rattle.std.proofs.Common.{arith, ◌≡◌, ℕ, Bool, true, false, ◌||◌, cond, List, [], ◌∷◌, ◌++◌, codes, map, append-nil, refl, sym, ap, ◌∙◌}
use Rattle.std.specs.List.{flat_map, list_all}
use Rattle.std.proofs.lemmas.Bool.{and_parts}
use Rattle.std.proofs.lemmas.Bool.Decides.{nat_tests}
use Rattle.std.proofs.lemmas.List.Folds.{list_any-append}
use Rattle.std.proofs.lemmas.List.Elements.{All-head, All-tail}
use Rattle.csv.specs.Quoting.{needs_byte}
use Rattle.csv.specs.Writing.{default_writer, field_text, fields_text, is_blank, needs_quotes, quoted, row_text}
use Rattle.agv_header.specs.Name.{IsName, is_name_byte}
use Rattle.agv_header.specs.declared.key.VehicleKey.{VehicleKey}
use Rattle.agv_stock.specs.declared.place.Place.{Place}
use Rattle.agv_stock.specs.declared.place.Place.TheVariants as place
use Rattle.agv_count.specs.ExportRecords.{AreLoadsNamed, IsPlaceNamed, export_fields, written_by_csv}
use Rattle.agv_count.specs.Reports.{key_text, load_line, loads_text}

-- a field that needs no quotes
abbrev pub IsPlain : List ℕ → Type 0
IsPlain field = needs_quotes default_writer field ≡ false

plain_byte : (b : ℕ) → is_name_byte b ≡ true → needs_byte default_writer b ≡ false
plain_byte b name = grind (arith, nat_tests)

-- bytes that pass a test, where none that needs quotes passes it
pub plain_bytes : (passes : ℕ → Bool) → ((b : ℕ) → passes b ≡ true → needs_byte default_writer b ≡ false) → (s : List ℕ) → list_all passes s ≡ true → IsPlain s
plain_bytes passes plain [] all = refl
plain_bytes passes plain (b ∷ s) all =
    let each = and_parts _ _ all in
    λ i. plain b each.0 i || plain_bytes passes plain s each.1 i

pub plain_name : (s : List ℕ) → IsName s → IsPlain s
plain_name s name = plain_bytes is_name_byte plain_byte s (and_parts _ _ name).1

plain_both : (s t : List ℕ) → IsPlain s → IsPlain t → IsPlain (s ++ t)
plain_both s t one other = list_any-append (needs_byte default_writer) s t ∙ λ i. one i || other i

pub as_it_is : (s : List ℕ) → IsPlain s → field_text default_writer s ≡ s
as_it_is s plain = ap (λ b. cond b (quoted default_writer s) s) plain

-- three fields that need no quotes
three : (a b c : List ℕ) → IsPlain a → IsPlain b → IsPlain c → (a ++ (44 ∷ (b ++ (44 ∷ c)))) ++ 10 ∷ [] ≡ row_text default_writer (a ∷ b ∷ c ∷ [])
unfolding fields_text is_blank
three a b c p q r =
    ap (λ (last : List ℕ). (a ++ (44 ∷ (b ++ (44 ∷ last)))) ++ 10 ∷ []) (sym (append-nil c))
    ∙ sym (λ i. (as_it_is a p i ++ (44 ∷ (as_it_is b q i ++ (44 ∷ (as_it_is c r i ++ []))))) ++ 10 ∷ [])

plain_key : (key : VehicleKey) → IsName key.manufacturer → IsName key.serial → IsPlain (key_text key)
plain_key key manufacturer serial =
    plain_both key.manufacturer (codes "/" ++ key.serial) (plain_name key.manufacturer manufacturer) (plain_both (codes "/") key.serial refl (plain_name key.serial serial))

record_of : (load : List ℕ) (at : Place) → IsName load → IsPlaceNamed at → load_line (load, at) ≡ row_text default_writer (export_fields (load, at))
record_of load (place.Station id) named there = three load (codes "station") id (plain_name load named) refl (plain_name id there)
record_of load (place.Vehicle key) named there = three load (codes "vehicle") (key_text key) (plain_name load named) refl (plain_key key there.0 there.1)
record_of load place.Checking named there = three load (codes "checking") [] (plain_name load named) refl refl
record_of load place.Left named there = three load (codes "left") [] (plain_name load named) refl refl

records_of_all : (loads : List (List ℕ × Place)) → AreLoadsNamed loads → flat_map load_line loads ≡ flat_map (row_text default_writer) (map export_fields loads)
records_of_all [] named = refl
records_of_all (l ∷ loads) named =
    let first = All-head (λ (l : List ℕ × Place). IsName l.0 × IsPlaceNamed l.1) l loads named in
    let rest = records_of_all loads (All-tail (λ (l : List ℕ × Place). IsName l.0 × IsPlaceNamed l.1) l loads named) in
    λ i. record_of l.0 l.1 first.0 first.1 i ++ rest i

pub as_csv_writes : (loads : List (List ℕ × Place)) → AreLoadsNamed loads → loads_text loads ≡ written_by_csv loads
as_csv_writes loads named =
    λ i. three (codes "load") (codes "place") (codes "at") refl refl refl i ++ records_of_all loads named i
