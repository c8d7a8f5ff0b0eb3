-- What SQL asks of the text of a table or an index, whatever database it runs over.
use Rattle.std.proofs.Common.{◌≡◌, ◌<◌, ◌+◌, ◌*◌, ◌^◌, ◌&&◌, ℕ, zero, suc, Bool, true, false, nat_le, nat_lt, List, [], ◌∷◌, length, slice_index_or, codes, Ok, Err, arith, ltb-true}
use Rattle.std.specs.Str.{IsUtf8}
use Rattle.std.specs.List.{list_all}
use Rattle.std.proofs.lemmas.Bool.{and_parts}
use Rattle.std.proofs.lemmas.Str.{IsUtf8-from_ascii}
use Rattle.std.proofs.lemmas.Str.Ascii.{IsAscii-from_all}
use Rattle.sqlite_value.specs.declared.value.Value.TheVariants.{Text}
use Rattle.sqlite_syntax.specs.declared.statement.Parsed.{Parsed}
use Rattle.sqlite_schema.specs.declared.schema.Table.{Table}
use Rattle.sqlite_schema.specs.Rules.{table_reals, index_reals}
use Rattle.sqlite_resolve.specs.Lowering.{Checked}
use Rattle.sqlite_resolve.specs.Compile.{first}
use Rattle.sqlite_catalog.specs.Change.{is_reserved}
use Rattle.sqlite_catalog.specs.Listing.{is_fit, is_formed}
use Rattle.agv_store_schema.specs.Schema.{PlainIndex}
use Rattle.agv_store_create.specs.DeskSchema.{places}

-- ---- bytes of ASCII

abbrev pub is_ascii : List ℕ → Bool
is_ascii = list_all (λ b. nat_lt b 128)

all_low : (bs : List ℕ) → is_ascii bs ≡ true → (k d : ℕ) → k < length bs → slice_index_or bs k d < 128
all_low [] all k d low = absurd (omega (arith, low))
all_low (b ∷ bs) all zero d low = ltb-true b 128 (and_parts _ _ all).0
all_low (b ∷ bs) all (suc k) d low = all_low bs (and_parts _ _ all).1 k d (omega (arith, low))

pub text_of_ascii : (bs : List ℕ) → is_ascii bs ≡ true → IsUtf8 bs
text_of_ascii bs all = IsUtf8-from_ascii bs (IsAscii-from_all bs (all_low bs all))

-- ---- a text

abbrev pub has_none : {X : Type 0} → List X → Bool
has_none [] = true
has_none (x ∷ xs) = false

pub none_in : {X : Type 0} (xs : List X) → has_none xs ≡ true → xs ≡ []
none_in [] none = cc
none_in (x ∷ xs) none = cc

-- it is one statement with no parameters
abbrev pub stands_alone : List ℕ → Checked Parsed → Bool
stands_alone sql (Ok p) = nat_le (length sql) p.tail && has_none p.names
stands_alone sql (Err e) = false

-- a database has room for the text and for what it defines
pub record StoresTable (sql : List ℕ) (t : Table) : Type 0 where
  pub alone : stands_alone sql (first sql) ≡ true
  pub ascii : is_ascii sql ≡ true
  pub named : is_ascii t.name ≡ true
  pub own : is_reserved t.name ≡ false
  pub reals : nat_lt (table_reals t) (2 ^ 64) ≡ true
  pub keys : list_all (λ key. nat_lt (index_reals (table_reals t) key) (2 ^ 64)) t.uniques ≡ true
  pub formed : is_formed t ≡ true
  pub fit : is_fit (Text (codes "table")) (Text t.name) (Text t.name) (Text sql) ≡ true
  pub short : nat_lt (2 * length t.name + length sql + 200) (10 ^ 9) ≡ true

pub record StoresIndex (sql : List ℕ) (t : Table) (index : PlainIndex) : Type 0 where
  pub alone : stands_alone sql (first sql) ≡ true
  pub ascii : is_ascii sql ≡ true
  pub named : is_ascii index.name ≡ true
  pub on_named : is_ascii t.name ≡ true
  pub own : is_reserved index.name ≡ false
  pub reals : nat_lt (table_reals t) (2 ^ 64) ≡ true
  pub key : nat_lt (index_reals (table_reals t) (places t index.columns)) (2 ^ 64) ≡ true
  pub fit : is_fit (Text (codes "index")) (Text index.name) (Text t.name) (Text sql) ≡ true
  pub short : nat_lt (length index.name + length t.name + length sql + 200) (10 ^ 9) ≡ true
