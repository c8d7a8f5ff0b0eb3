-- What is read of a subcommand's matches, from the values that its arguments have.
use Rattle.std.proofs.Common.{◌≡◌, ◌∙◌, ◌≤◌, ◌<◌, ◌^◌, ◌||◌, ℕ, Bool, true, false, true≢false, refl, sym, ap, subst, List, [], ◌∷◌, Option, Some, None, Result, arith}
use Rattle.std.specs.Prelude.{codes, option_map}
use Rattle.std.specs.List.{list_any}
use Rattle.std.specs.Str.{bytes_eq}
use Rattle.std.proofs.lemmas.Slice.Eq.{bytes_eq-Decides}
use Rattle.std.specs.Borrow.{Bor}
use Rattle.std.specs.Str.Parse.{ExplainsUnsignedError, HasUnsignedDigitsIfOk, ParsesUnsigned, digits_value, without_leading_plus}
use Rattle.std.specs.declared.num.ParseIntError.{ParseIntError}
use Rattle.clap.specs.Values.{IsUnsignedIn}
use Rattle.clap.specs.Matches.{ReadsOne, first_value, one_text}
use Rattle.clap.specs.Walk.{Row, Rule, Text, first_of, one_of, rows_of}
use Rattle.clap.specs.declared.parser.matches.Found.{Found}
use Rattle.clap.proofs.WalkLemmas.{first_value-rows, list_any-map, one_text-rows}
use Rattle.agv_app_line.specs.declared.line.ReportKind.{ReportKind}
use Rattle.agv_app_line.specs.declared.line.ReportKind.TheVariants as kind
use Rattle.agv_app_line.specs.CommandLine.{AreKinds, Choice, GivesNumber, HasValue, Spells, kind_word, report_kind}

-- the text that is read of an argument that has a value
text_found : (f : Found) (a : Rule) (r : Option (Bor Text)) → option_map (λ s. s.now) r ≡ first_value f a.id → HasValue (rows_of f) a
    → (text : Bor Text) × (r ≡ Some text) × (one_of a.id (rows_of f) ≡ Some text.now)
text_found f a (Some text) is has =
    let same : Some text.now ≡ Some has.0 = is ∙ (first_value-rows f a.id ∙ has.1) in
    let eq : has.0 ≡ text.now = cc in
    (text, refl, has.2 ∙ ap (λ t. Some t) eq)
text_found f a None is has =
    let bad : None ≡ Some has.0 = is ∙ (first_value-rows f a.id ∙ has.1) in
    cc

pub text_there : (f : Found) (a : Rule) (r : Option (Bor Text)) → option_map (λ s. s.now) r ≡ first_value f a.id → HasValue (rows_of f) a → r ≡ None → ⊥
text_there f a r is has none =
    let found = text_found f a r is has in
    let bad : Some found.0 ≡ None = sym found.1 ∙ none in
    cc

pub text_read : (f : Found) (a : Rule) (r : Option (Bor Text)) → option_map (λ s. s.now) r ≡ first_value f a.id → HasValue (rows_of f) a
    → (text : Bor Text) → r ≡ Some text → one_of a.id (rows_of f) ≡ Some text.now
text_read f a r is has text eq =
    let found = text_found f a r is has in
    let same : Some found.0 ≡ Some text = sym found.1 ∙ eq in
    let texts : found.0 ≡ text = cc in
    found.2 ∙ ap (λ (t : Bor Text). Some t.now) texts

-- how `std` reads a text as a number of k bits
abbrev pub IsParsed : ℕ → List ℕ → Result ℕ ParseIntError → Type 0
IsParsed k bs r = ParsesUnsigned k 10 bs r × ExplainsUnsignedError 10 bs r × HasUnsignedDigitsIfOk bs r

-- the argument has a number up to `most`
abbrev pub HasNumber : Found → Text → ℕ → Type 0
HasNumber f id most = (v : Text) × (first_of id (rows_of f) ≡ Some v) × (one_of id (rows_of f) ≡ Some v) × IsUnsignedIn 0 most v

module _ (k most : ℕ) (fits : most < 2 ^ k) where
  spelt : (t : List ℕ) (r : Option ℕ) → ReadsOne (IsParsed k) t r → IsUnsignedIn 0 most t → (n : ℕ) × (r ≡ Some n) × Spells t n × (n ≤ most)
  spelt t (Some v) read passed =
      let is : v ≡ digits_value 10 (without_leading_plus t) = (read.0).1 in
      (v, refl, (passed.0, is), rw is passed.3)
  spelt t None read passed = absurd (read.1.0 (passed.0, omega arith))

  -- a value that passed a range of numbers reads as the number that it spells
  number_found : (f : Found) (id : Text) (r : Option ℕ) → ((t : List ℕ) → one_text f id ≡ Some t → ReadsOne (IsParsed k) t r) → HasNumber f id most
      → (n : ℕ) × (r ≡ Some n) × GivesNumber (rows_of f) id most n
  number_found f id r read has =
      let got = spelt has.0 r (read has.0 (one_text-rows f id ∙ has.2)) has.3 in
      (got.0, got.1, (has.0, has.2, got.2, got.3))

  pub number_there : (f : Found) (id : Text) (r : Option ℕ) → ((t : List ℕ) → one_text f id ≡ Some t → ReadsOne (IsParsed k) t r) → HasNumber f id most → r ≡ None → ⊥
  number_there f id r read has none =
      let found = number_found f id r read has in
      let bad : Some found.0 ≡ None = sym found.1 ∙ none in
      cc

  pub number_read : (f : Found) (id : Text) (r : Option ℕ) → ((t : List ℕ) → one_text f id ≡ Some t → ReadsOne (IsParsed k) t r) → HasNumber f id most
      → (n : ℕ) → r ≡ Some n → GivesNumber (rows_of f) id most n
  number_read f id r read has n eq =
      let found = number_found f id r read has in
      let same : Some found.0 ≡ Some n = sym found.1 ∙ eq in
      let numbers : found.0 ≡ n = cc in
      subst (GivesNumber (rows_of f) id most) numbers found.2

one_of_two : (stock holds : Bool) (word : Text) → (stock ≡ true → word ≡ kind_word kind.Stock) → (holds ≡ true → word ≡ kind_word kind.Holds) → (stock || (holds || false)) ≡ true → (kind : ReportKind) × (word ≡ kind_word kind)
one_of_two true holds word first second e = (kind.Stock, first refl)
one_of_two false true word first second e = (kind.Holds, second refl)
one_of_two false false word first second e = absurd (true≢false (sym e))

-- a word that passed as the name of a report is one
pub kind_known : (kinds : Choice) → AreKinds kinds → (rows : List Row) → HasValue rows (report_kind kinds) → (word : Text) → one_of (codes "kind") rows ≡ Some word
    → (kind : ReportKind) × (word ≡ kind_word kind)
kind_known kinds are rows has word is =
    let same : Some has.0 ≡ Some word = sym has.2 ∙ is in
    let words : has.0 ≡ word = cc in
    let among = sym (list_any-map (λ t. bytes_eq t has.0) (λ name. name.now) kinds.now) ∙ has.3 in
    let either : list_any (λ t. bytes_eq t has.0) (kind_word kind.Stock ∷ kind_word kind.Holds ∷ []) ≡ true = rw are at among in
    one_of_two _ _ word
    (λ e. sym words ∙ sym ((bytes_eq-Decides (kind_word kind.Stock) has.0).0 e))
    (λ e. sym words ∙ sym ((bytes_eq-Decides (kind_word kind.Holds) has.0).0 e))
    either
