-- The export of a layout is read back: its records are those of its rows, and the row of each record is the one that it was written of.
use Rattle.std.proofs.Common.{arith, ◌≡◌, ◌≤◌, ◌<◌, ◌^◌, ℕ, true, false, ◌&&◌, cond, nat_lt, nat_le, List, [], ◌∷◌, ◌++◌, length, codes, decimal, map, Some, None, option_map, option_and_then, append-nil, refl, sym, ap, ◌∙◌}
use Rattle.std.specs.Char.{is_ascii_digit}
use Rattle.std.specs.List.{flat_map, list_all}
use Rattle.std.specs.Str.Parse.{digits_value}
use Rattle.std.proofs.lemmas.Bool.Decides.{nat_tests}
use Rattle.std.proofs.lemmas.Fmt.{decimal_nonempty, digits_decimal, digits_value-decimal, length-decimal-le}
use Rattle.std.proofs.lemmas.List.Elements.{All-head, All-tail}
use Rattle.csv.specs.Machine.{next_record}
use Rattle.csv.specs.Quoting.{needs_byte}
use Rattle.csv.specs.Reading.{Reached, default_config, strip_bom}
use Rattle.csv.specs.Writing.{default_writer, fields_text, is_blank, row_text}
use Rattle.csv.specs.declared.parser.State.TheVariants as st
use Rattle.csv.proofs.RoundTrip.{read-write-many}
use Rattle.agv_header.specs.Each.{each}
use Rattle.agv_layout.specs.declared.row.LayoutRow.{LayoutRow}
use Rattle.agv_layout.specs.declared.row.LayoutRow.TheVariants as row
use Rattle.agv_count.specs.LayoutExport.{AreListed, IsListed}
use Rattle.agv_count.specs.LayoutFile.{edge_row, is_capacity, layout_columns, layout_rows_in, node_row, row_in, station_row}
use Rattle.agv_count.specs.Records.{records_of}
use Rattle.agv_count.specs.Reports.{layout_line, layout_text}
use Rattle.agv_count.specs.Table.{rows_under}
use Rattle.agv_count.proofs.AllRecords.{all_records}
use Rattle.agv_count.proofs.ExportLemmas.{IsPlain, as_it_is, plain_bytes, plain_name}
use Rattle.agv_count.proofs.FieldLemmas.{own}

-- the fields of a row's record
abbrev fields : LayoutRow → List (List ℕ)
fields (row.Node id) = codes "node" ∷ id ∷ [] ∷ [] ∷ []
fields (row.Edge id start finish) = codes "edge" ∷ id ∷ start ∷ finish ∷ []
fields (row.Station id node capacity) = codes "station" ∷ id ∷ node ∷ decimal capacity ∷ []

-- ---- a capacity, as it is written
plain_digit : (b : ℕ) → is_ascii_digit b ≡ true → needs_byte default_writer b ≡ false
plain_digit b digit = grind (arith, nat_tests)

module _ (n : ℕ) (few : n ≤ 999) where
  small : n < 2 ^ 64
  small = omega arith

  digits : list_all is_ascii_digit (decimal n) ≡ true
  digits = digits_decimal own n small

  plain_capacity : IsPlain (decimal n)
  plain_capacity = plain_bytes is_ascii_digit plain_digit (decimal n) digits

  same_capacity : digits_value 10 (decimal n) ≡ n
  same_capacity = digits_value-decimal own n small

  is_capacity-decimal : is_capacity (decimal n) ≡ true
  is_capacity-decimal =
      let some : 0 < length (decimal n) = decimal_nonempty n small in
      let short : length (decimal n) ≤ 3 = length-decimal-le 3 n (omega arith) (omega arith) small in
      let first : nat_lt 0 (length (decimal n)) ≡ true = grind (arith, nat_tests) in
      let second : nat_le (length (decimal n)) 3 ≡ true = grind (arith, nat_tests) in
      λ i. first i && second i && digits i

-- ---- the records of an export
-- four fields that need no quotes
four : (a b c d : List ℕ) → IsPlain a → IsPlain b → IsPlain c → IsPlain d
    → (a ++ (44 ∷ (b ++ (44 ∷ (c ++ (44 ∷ d)))))) ++ 10 ∷ [] ≡ row_text default_writer (a ∷ b ∷ c ∷ d ∷ [])
unfolding fields_text is_blank
four a b c d p q r s =
    ap (λ (last : List ℕ). (a ++ (44 ∷ (b ++ (44 ∷ (c ++ (44 ∷ last)))))) ++ 10 ∷ []) (sym (append-nil d))
    ∙ sym (λ i. (as_it_is a p i ++ (44 ∷ (as_it_is b q i ++ (44 ∷ (as_it_is c r i ++ (44 ∷ (as_it_is d s i ++ []))))))) ++ 10 ∷ [])

-- are read as a record of these fields
four_read : (a b c d rest : List ℕ) → IsPlain a → IsPlain b → IsPlain c → IsPlain d
    → next_record default_config st.StartRecord [] [] (((a ++ (44 ∷ (b ++ (44 ∷ (c ++ (44 ∷ d)))))) ++ 10 ∷ []) ++ rest) ≡ Some (a ∷ b ∷ c ∷ d ∷ [], st.StartRecord, rest)
four_read a b c d rest p q r s =
    ap (λ (text : List ℕ). next_record default_config st.StartRecord [] [] (text ++ rest)) (four a b c d p q r s)
    ∙ read-write-many a b (c ∷ d ∷ []) rest

line_read : (r : LayoutRow) (rest : List ℕ) → IsListed r → next_record default_config st.StartRecord [] [] (layout_line r ++ rest) ≡ Some (fields r, st.StartRecord, rest)
line_read (row.Node id) rest named = four_read (codes "node") id [] [] rest refl (plain_name id named) refl refl
line_read (row.Edge id start finish) rest named =
    four_read (codes "edge") id start finish rest refl (plain_name id named.0) (plain_name start named.1) (plain_name finish named.2)
line_read (row.Station id node capacity) rest named =
    four_read (codes "station") id node (decimal capacity) rest refl (plain_name id named.0) (plain_name node named.1) (plain_capacity capacity named.2)

lines_read : (rows : List LayoutRow) → AreListed rows → Reached default_config st.StartRecord (flat_map layout_line rows) (map fields rows) st.StartRecord []
unfolding Reached
lines_read [] listed = (refl, refl)
lines_read (r ∷ rows) listed =
    let rest = flat_map layout_line rows in
    ((fields r, st.StartRecord, rest), line_read r rest (All-head IsListed r rows listed), refl, lines_read rows (All-tail IsListed r rows listed))

all_read : (rows : List LayoutRow) → AreListed rows → Reached default_config st.StartRecord (layout_text rows) (layout_columns ∷ map fields rows) st.StartRecord []
unfolding Reached
all_read rows listed =
    let rest = flat_map layout_line rows in
    ((layout_columns, st.StartRecord, rest), four_read (codes "kind") (codes "id") (codes "from") (codes "to") rest refl refl refl refl, refl, lines_read rows listed)

-- it begins with no byte order mark
records_back : (rows : List LayoutRow) → AreListed rows → records_of (layout_text rows) ≡ layout_columns ∷ map fields rows
unfolding records_of strip_bom next_record
records_back rows listed = all_records (layout_columns ∷ map fields rows) st.StartRecord (layout_text rows) [] (all_read rows listed) refl

-- ---- the rows of these records
row_back : (r : LayoutRow) → IsListed r → row_in (fields r) ≡ Some r
unfolding row_in node_row edge_row station_row
row_back (row.Node id) named = λ i. cond (named i && true && true) (Some (row.Node id)) None
row_back (row.Edge id start finish) named = λ i. cond (named.0 i && named.1 i && named.2 i) (Some (row.Edge id start finish)) None
row_back (row.Station id node capacity) named =
    λ i. cond (named.0 i && named.1 i && is_capacity-decimal capacity named.2 i) (Some (row.Station id node (same_capacity capacity named.2 i))) None

rows_back : (rows : List LayoutRow) → AreListed rows → each row_in (map fields rows) ≡ Some rows
rows_back [] listed = refl
rows_back (r ∷ rows) listed =
    let first = row_back r (All-head IsListed r rows listed) in
    let rest = rows_back rows (All-tail IsListed r rows listed) in
    λ i. option_and_then (λ (y : LayoutRow). option_map (λ (ys : List LayoutRow). y ∷ ys) (rest i)) (first i)

pub read_back : (rows : List LayoutRow) → AreListed rows → layout_rows_in (layout_text rows) ≡ Some rows
read_back rows listed = ap (rows_under layout_columns row_in) (records_back rows listed) ∙ rows_back rows listed
