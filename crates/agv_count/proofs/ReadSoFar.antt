-- How far a reader of a text has come, in a loop over its records.
use Rattle.std.proofs.Common.{ℕ, ◌≡◌, ◌<◌, true, false, List, [], ◌∷◌, ◌++◌, Option, Some, refl, inl, ◌∙◌}
use Rattle.csv.specs.Reading.{ReadRecord, Reached, Ready, default_config, expected_len, is_flexible, reader_config, reader_state, reader_trim, source_of, took_first}
use Rattle.csv.specs.declared.parser.State.TheVariants as st
use Rattle.csv.specs.declared.reader.Reader.{Reader}
use Rattle.csv.specs.declared.reader.Trim.TheVariants as trim
use Rattle.csv.proofs.ReadFacts.{rows-more}
use Rattle.agv_count.proofs.Failures.{expected-more, first_length}

-- the reader has given these records of the text
pub record ReadSoFar {R : Type 0} (rem : R → Option (List ℕ)) (text : List ℕ) (rdr : Reader R) (turns : ℕ) (rows : List (List (List ℕ))) : Type 0 where
  pub untrimmed : reader_trim rdr ≡ trim.None
  pub ready : Ready rdr
  pub more : 0 < turns
  pub config : reader_config rdr ≡ default_config
  pub strict : is_flexible rdr ≡ false
  pub expects : expected_len rdr ≡ first_length rows
  pub rest : List ℕ
  pub source : source_of rem rdr ≡ Some rest
  pub reached : Reached default_config st.StartRecord text rows (reader_state rdr) rest

-- it gives one more
pub one-more : {R : Type 0} (rem : R → Option (List ℕ)) (text : List ℕ) (a b : Reader R) (turns left : ℕ) (rows : List (List (List ℕ))) (f : List (List ℕ))
    → ReadSoFar rem text a turns rows → ReadRecord rem a b true f → took_first b ≡ true → 0 < left → is_flexible b ≡ is_flexible a
    → ReadSoFar rem text b left (rows ++ (f ∷ []))
one-more rem text a b turns left rows f so_far read first more kept =
    let (rest, source, reached) = rows-more rem a b f default_config st.StartRecord text so_far.rest rows so_far.config so_far.source so_far.reached read in
    let lengths = read.5 refl so_far.strict in
    record {
      untrimmed = read.3 ∙ so_far.untrimmed;
      ready = inl first;
      more = more;
      config = read.2 ∙ so_far.config;
      strict = kept ∙ so_far.strict;
      expects = expected-more rows f _ _ so_far.expects lengths.0 lengths.1;
      rest = rest;
      source = source;
      reached = reached;
    }
