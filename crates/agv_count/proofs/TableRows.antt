-- Records that are not all as long as the header are no table.
use Rattle.std.proofs.Common.{◌≡◌, ◌∷◌, Bool, true, false, cond, List, [], ℕ, suc, Option, Some, None, length, option_and_then, option_map, map, ap, sym, ◌∙◌, refl, true≢false, arith}
use Rattle.std.specs.Cmp.Lexicographic.{pointwise}
use Rattle.std.specs.List.{list_all}
use Rattle.std.specs.Str.{bytes_eq}
use Rattle.std.proofs.lemmas.Bool.{and_parts}
use Rattle.std.proofs.lemmas.Bool.Decides.{nat_tests}
use Rattle.csv.specs.Records.{fields_of}
use Rattle.csv.specs.declared.record.ByteRecord.{ByteRecord}
use Rattle.agv_header.specs.Each.{each}
use Rattle.agv_count.specs.Records.{has_fields}
use Rattle.agv_count.specs.Table.{is_record, rows_under}

-- the header has as many fields as there are columns
as_long : (fields columns : List (List ℕ)) → pointwise bytes_eq fields columns ≡ true → length fields ≡ length columns
as_long [] [] e = refl
as_long [] (c ∷ columns) e = absurd (true≢false (sym e))
as_long (f ∷ fields) [] e = absurd (true≢false (sym e))
as_long (f ∷ fields) (c ∷ columns) e = ap suc (as_long fields columns (and_parts (bytes_eq f c) (pointwise bytes_eq fields columns) e).1)

no_header : (columns fields : List (List ℕ)) → has_fields (length columns) fields ≡ false → is_record columns fields ≡ false
no_header columns fields short = by (is_record columns fields) refl
  where
    by : (b : Bool) → is_record columns fields ≡ b → is_record columns fields ≡ false
    by false is = is
    by true is = let long = as_long fields columns is in absurd (grind (arith, nat_tests))

either_none : {A : Type 0} (b : Bool) (o : Option A) → o ≡ None → cond b o None ≡ None
either_none true o e = e
either_none false o e = refl

no_more : {A : Type 0} (first : Option A) (rest : Option (List A)) → rest ≡ None → option_and_then (λ y. option_map (λ ys. y ∷ ys) rest) first ≡ None
no_more None rest e = refl
no_more (Some x) rest e = rw e refl

module _ {A : Type 0} (columns : List (List ℕ)) (row : List (List ℕ) → Option A) where
  no_rows : ((fields : List (List ℕ)) → has_fields (length columns) fields ≡ false → row fields ≡ None) → (records : List (List (List ℕ)))
      → list_all (has_fields (length columns)) records ≡ false → each row records ≡ None
  no_rows full [] e = cc e
  no_rows full (r ∷ rs) e = by (has_fields (length columns) r) refl (no_rows full rs)
    where
      by : (b : Bool) → has_fields (length columns) r ≡ b → (list_all (has_fields (length columns)) rs ≡ false → each row rs ≡ None) → each row (r ∷ rs) ≡ None
      by false short more = rw (full r short) refl
      by true long more = no_more (row r) (each row rs) (more (rw long at e))

  pub uneven_rows : ((fields : List (List ℕ)) → has_fields (length columns) fields ≡ false → row fields ≡ None) → (records : List (List (List ℕ)))
      → list_all (has_fields (length columns)) records ≡ false → rows_under columns row records ≡ None
  uneven_rows full [] e = refl
  uneven_rows full (r ∷ rs) e = by (has_fields (length columns) r) refl
    where
      by : (b : Bool) → has_fields (length columns) r ≡ b → rows_under columns row (r ∷ rs) ≡ None
      by false short = rw (no_header columns r short) refl
      by true long = either_none (is_record columns r) (each row rs) (no_rows full rs (rw long at e))

  -- what stands under a header
  pub under_header : (records rest : List ByteRecord) (header : ByteRecord) (is : Bool) → records ≡ header ∷ rest → is ≡ is_record columns (fields_of header) → is ≡ true
      → rows_under columns row (map fields_of records) ≡ each row (map fields_of rest)
  under_header records rest header is all said holds =
      ap (λ (rs : List ByteRecord). rows_under columns row (map fields_of rs)) all ∙ ap (λ b. cond b (each row (map fields_of rest)) None) (sym said ∙ holds)
