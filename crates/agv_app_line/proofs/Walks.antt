-- What a parse that finds no fault keeps, word by word.
use Rattle.std.proofs.Common.{◌≡◌, ◌&&◌, not, ℕ, zero, suc, Bool, cond, true, false, refl, List, [], ◌∷◌, length, drop, is_some, Option, Some, None, true≢false}
use Rattle.std.specs.Prelude.{⊤, encode_utf8, slice_get, codes}
use Rattle.std.specs.List.{find, fold}
use Rattle.std.specs.Option.{option_map_or}
use Rattle.std.specs.Str.{bytes_eq, chars}
use Rattle.clap.specs.Walk.{Held, Names, Outcome, Row, Rule, Step, Text, Waiting, Walk, idle, option, positional, done, waits, plain, refused, next, trailing, subcommand, value, after_flag, after_step, arg_by_id, arg_by_index, arg_by_long, arg_by_short, attached_value, bundle_met, bundle_step, flag_met, is_pending, long_met, long_or_other, option_met, option_word, plain_word, reacted, settled, settled_rows, short_met, short_or_plain, subcommand_met, subcommand_or_other, takes_several, takes_values, to_positional, used, used_by_id, walked, walked_from, word_met}
use Rattle.clap.specs.Lexer.{long_of, short_of}
use Rattle.clap.specs.Kinds.{Kinds, or_else}
use Rattle.clap.specs.Simple.{Shape}
use Rattle.clap.specs.Faults.{bundle_fault, bundle_step_fault, flag_word_fault, flags_fault, long_fault, option_fault, other_fault, positional_fault, react_fault, settle_fault, short_fault, step_fault, turn_fault, use_fault, walk_fault, word_fault}

pub or_split : (a b : Kinds) → or_else a b ≡ [] → (a ≡ []) × (b ≡ [])
or_split [] b e = (refl, e)
or_split (k ∷ ks) b e = cc

abbrev pub Each : {X : Type 0} → (X → Type 0) → List X → Type 0
Each P [] = ⊤
Each P (x ∷ xs) = P x × Each P xs

abbrev pub At : {X : Type 0} → (X → Type 0) → Option X → Type 0
At P None = ⊤
At P (Some x) = P x

pub find_keeps : {X : Type 0} (P : X → Type 0) (p : X → Bool) (xs : List X) → Each P xs → At P (find p xs)
find_keeps P p [] h = tt
find_keeps P p (x ∷ xs) h = go (p x) (find_keeps P p xs h.1)
  where
    go : (b : Bool) → At P (find p xs) → At P (cond b (Some x) (find p xs))
    go true more = h.0
    go false more = more

module _ (Good : Row → Type 0) (c : List Rule) (again : Bool) where
  -- a use of the argument with no fault keeps the rows good
  abbrev pub Keeps : Rule → Type 0
  Keeps a = (values : List Text) (rows : List Row) → use_fault again a values rows ≡ [] → Each Good rows → Each Good (used a values rows)

  abbrev IsGood : Held → Type 0
  IsGood h = Each Good h.rows

  if_keeps : (b : Bool) (f g : Kinds) (x y : Held × Outcome) → cond b f g ≡ [] → (f ≡ [] → IsGood x.0) → (g ≡ [] → IsGood y.0) → IsGood (cond b x y).0
  if_keeps true f g x y e first second = first e
  if_keeps false f g x y e first second = second e

  module _ (keeps : Each Keeps c) where
    by_id : (found : Option Rule) (values : List Text) (rows : List Row) → At Keeps found → option_map_or (λ a. use_fault again a values rows) found [] ≡ []
        → Each Good rows → Each Good (used_by_id found values rows)
    by_id None values rows k e g = g
    by_id (Some a) values rows k e g = k values rows e g

    settled_good : (p : Option (Text × List Text)) (rows : List Row) → option_map_or (λ p. option_map_or (λ a. use_fault again a p.1 rows) (arg_by_id c p.0) []) p [] ≡ []
        → Each Good rows → Each Good (settled_rows c p rows)
    settled_good None rows e g = g
    settled_good (Some p) rows e g = by_id (arg_by_id c p.0) p.1 rows (find_keeps Keeps (λ a. bytes_eq a.id p.0) c keeps) e g

    pub settle_keeps : (h : Held) → settle_fault c again h ≡ [] → IsGood h → IsGood (settled c h)
    settle_keeps h e g = settled_good h.pending h.rows e g

    react_keeps : (a : Rule) (values : List Text) (h : Held) → Keeps a → react_fault c again a values h ≡ [] → IsGood h → IsGood (reacted c a values h)
    react_keeps a values h k e g =
        let parts = or_split (settle_fault c again h) _ e in
        k values (settled c h).rows parts.1 (settle_keeps h parts.0 g)

    option_keeps : (a : Rule) (v : Option Text) (h : Held) → Keeps a → option_fault c again a v h ≡ [] → IsGood h → IsGood (option_met c a v h).0
    option_keeps a (Some v) h k e g = react_keeps a (v ∷ []) h k e g
    option_keeps a None h k e g = settle_keeps h e g

    flag_keeps : (a : Rule) (v : Option Text) (h : Held) → Keeps a → (is_some v ≡ false → react_fault c again a [] h ≡ []) → IsGood h → IsGood (flag_met c a v h).0
    flag_keeps a (Some v) h k e g = g
    flag_keeps a None h k e g = react_keeps a [] h k (e refl) g

    no_value : (b : Bool) (f g : Kinds) → cond b f g ≡ [] → b ≡ false → g ≡ []
    no_value true f g e none = absurd (true≢false none)
    no_value false f g e none = e

    long_keeps : (found : Option Rule) (v : Option Text) (h : Held) → At Keeps found → long_fault c again found v h ≡ [] → IsGood h → IsGood (long_met c found v h).0
    long_keeps None v h k e g = g
    long_keeps (Some a) v h k e g =
        if_keeps (takes_values a) (option_fault c again a v h) _ (option_met c a v h) (flag_met c a v h) e
        (λ e. option_keeps a v h k e g)
        (λ e. flag_keeps a v h k (no_value (is_some v) _ (react_fault c again a [] h) e) g)

    short_keeps : (found : Option Rule) (rest : Text) (h : Held) (faults : Held → Kinds) (goes : Held → Held × Outcome) → At Keeps found
        → ((h : Held) → faults h ≡ [] → IsGood h → IsGood (goes h).0)
        → short_fault c again found rest h faults ≡ [] → IsGood h → IsGood (short_met c found rest h goes).0
    short_keeps None rest h faults goes k more e g = g
    short_keeps (Some a) rest h faults goes k more e g =
        if_keeps (takes_values a) (option_fault c again a (attached_value rest) h) _ (option_met c a (attached_value rest) h) (goes (reacted c a [] h)) e
        (λ e. option_keeps a (attached_value rest) h k e g)
        (λ e.
        let parts = or_split (react_fault c again a [] h) _ e in
        more (reacted c a [] h) parts.1 (react_keeps a [] h k parts.0 g))

    flags_keep : (k : ℕ) (flags : Text) (skip : ℕ) (so_far : Outcome) (h : Held) → flags_fault c again k flags skip h ≡ [] → IsGood h → IsGood (bundle_met c k flags skip so_far h).0
    unfolding flags_fault bundle_met
    flags_keep zero flags skip so_far h e g = g
    flags_keep (suc k) flags skip so_far h e g = step (flags_keep k) (slice_get (chars flags) 0) skip e
      where
        step : ((flags : Text) (skip : ℕ) (so_far : Outcome) (h : Held) → flags_fault c again k flags skip h ≡ [] → IsGood h → IsGood (bundle_met c k flags skip so_far h).0)
            → (x : Option ℕ) (skip : ℕ) → bundle_step_fault c again x flags skip h (flags_fault c again k) ≡ []
            → IsGood (bundle_step c x flags skip so_far h (bundle_met c k)).0
        step more None skip e = g
        step more (Some x) zero e =
            let rest = drop (length (encode_utf8 x)) flags in
            short_keeps (arg_by_short c x) rest h (flags_fault c again k rest 0) (bundle_met c k rest 0 done)
            (find_keeps Keeps _ c keeps) (λ h e g. more rest 0 done h e g) e g
        step more (Some x) (suc skip) e = more (drop (length (encode_utf8 x)) flags) skip so_far h e g

    plain_rows : (waiting : Waiting) (word : Text) (h : Held) → IsGood h → IsGood (plain_word c waiting word h).0
    plain_rows (option id) word h g = go (arg_by_id c id)
      where
        go : (found : Option Rule) → IsGood (option_word found id word h).0
        go None = g
        go (Some a) = g
    plain_rows idle word h g = g
    plain_rows positional word h g = g

    flag_rows : (waiting : Waiting) (word : Text) (h : Held) (came : Outcome) → IsGood h → IsGood (after_flag c waiting word h came).0
    flag_rows waiting word h done g = g
    flag_rows waiting word h (waits id) g = g
    flag_rows waiting word h plain g = plain_rows waiting word h g
    flag_rows waiting word h refused g = plain_rows waiting word h g

    long_or_short : (waiting : Waiting) (word : Text) (long : Option (Text × Option Text)) (h : Held) → flag_word_fault c again long word h ≡ [] → IsGood h
        → IsGood (long_or_other c waiting word long h).0
    long_or_short waiting word (Some p) h e g =
        flag_rows waiting word _ _ (long_keeps (arg_by_long c p.0) p.1 h (find_keeps Keeps _ c keeps) e g)
    long_or_short waiting word None h e g = go (short_of word) e
      where
        go : (flags : Option Text) → option_map_or (λ flags. bundle_fault c again flags h) flags [] ≡ [] → IsGood (short_or_plain c waiting word flags h).0
        go None e = plain_rows waiting word h g
        go (Some flags) e = flag_rows waiting word _ _ (flags_keep (length flags) flags h.skip plain (record h { skip = 0 }) e g)

    positional_keeps : (found : Option Rule) (word : Text) (w : Walk) (h : Held) (stray : Kinds)
        → option_map_or (λ a. positional_fault c again a h) found stray ≡ [] → IsGood h → IsGood (to_positional c found word w h).held
    positional_keeps None word w h stray e g = g
    positional_keeps (Some a) word w h stray e g = go (is_pending a h.pending && takes_several a) e
      where
        go : (b : Bool) → cond b [] (settle_fault c again h) ≡ [] → Each Good (cond b h (settled c h)).rows
        go true e = g
        go false e = settle_keeps h e g

module _ (Good : Row → Type 0) (s : Shape) (names : Names) (keeps : Each (Keeps Good s.rules s.args_override_self) s.rules) where
  abbrev IsGoodAt : Held → Type 0
  IsGoodAt h = Each Good h.rows

  word_keeps : (is_trailing : Bool) (waiting : Waiting) (position : ℕ) (word : Text) (h : Held) → word_fault s names is_trailing waiting word h ≡ [] → IsGoodAt h
      → IsGoodAt (word_met s.rules names is_trailing waiting position word h).0
  word_keeps true waiting position word h e g = g
  word_keeps false waiting position word h e g = go (subcommand_met names waiting word) e
    where
      dashes : (b : Bool) → cond b [] (flag_word_fault s.rules s.args_override_self (long_of word) word h) ≡ []
          → IsGoodAt (cond b (h, trailing position) (long_or_other s.rules waiting word (long_of word) h)).0
      dashes true e = g
      dashes false e = long_or_short Good s.rules s.args_override_self keeps waiting word (long_of word) h e g

      go : (met : Option Text) → other_fault s met word h ≡ [] → IsGoodAt (subcommand_or_other s.rules met waiting position word h).0
      go (Some name) e = g
      go None e = dashes (bytes_eq word (45 ∷ 45 ∷ [])) e

  step_keeps : (w : Walk) (word : Text) (h : Held) (step : Step) → step_fault s w.position h step ≡ [] → IsGoodAt h → IsGoodAt (after_step s.rules word w h step).held
  step_keeps w word h (next waiting) e g = g
  step_keeps w word h (trailing position) e g = g
  step_keeps w word h (subcommand name) e g = g
  step_keeps w word h value e g = positional_keeps Good s.rules s.args_override_self keeps (arg_by_index s.rules w.position) word w h _ e g

  turn_keeps : (w : Walk) (word : Text) → turn_fault s names w word ≡ [] → IsGoodAt w.held → IsGoodAt (walked s.rules names w word).held
  unfolding walked
  turn_keeps w word e g = go w.stopped e
    where
      met : Held × Step
      met = word_met s.rules names w.is_trailing w.waiting w.position word w.held

      go : (stopped : Option (Text × List Text)) → cond (is_some stopped) [] (or_else (word_fault s names w.is_trailing w.waiting word w.held) (step_fault s w.position met.0 met.1)) ≡ []
          → IsGoodAt (walked_from s.rules names stopped w word).held
      go (Some p) e = g
      go None e =
          let parts = or_split (word_fault s names w.is_trailing w.waiting word w.held) _ e in
          step_keeps w word met.0 met.1 parts.1 (word_keeps w.is_trailing w.waiting w.position word w.held parts.0 g)

  -- the rows stay good over words with no fault
  pub walk_keeps : (w : Walk) (words : List Text) → walk_fault s names w words ≡ [] → IsGoodAt w.held → IsGoodAt (fold (walked s.rules names) w words).held
  unfolding walk_fault
  walk_keeps w [] e g = g
  walk_keeps w (word ∷ words) e g =
      let parts = or_split (turn_fault s names w word) _ e in
      walk_keeps (walked s.rules names w word) words parts.1 (turn_keeps w word parts.0 g)

-- ---- a subcommand that is met is not `help`

module _ (s : Shape) (names : Names) (helps : s.disable_help_subcommand ≡ false) where
  abbrev IsOther : Text → Type 0
  IsOther name = bytes_eq name (codes "help") ≡ false

  abbrev pub StopsWell : Option (Text × List Text) → Type 0
  StopsWell None = ⊤
  StopsWell (Some p) = IsOther p.0

  abbrev StepsWell : Step → Type 0
  StepsWell (next waiting) = ⊤
  StepsWell (trailing position) = ⊤
  StepsWell (subcommand name) = IsOther name
  StepsWell value = ⊤

  other_name : (b off : Bool) (help : Kinds) → (help ≡ [] → ⊥) → off ≡ false → cond (b && not off) help [] ≡ [] → b ≡ false
  other_name false off help some on e = refl
  other_name true true help some on e = absurd (true≢false on)
  other_name true false help some on e = absurd (some e)

  plain_steps : (waiting : Waiting) (word : Text) (h : Held) → StepsWell (plain_word s.rules waiting word h).1
  plain_steps (option id) word h = tt
  plain_steps idle word h = tt
  plain_steps positional word h = tt

  flag_steps : (waiting : Waiting) (word : Text) (h : Held) (came : Outcome) → StepsWell (after_flag s.rules waiting word h came).1
  flag_steps waiting word h done = tt
  flag_steps waiting word h (waits id) = tt
  flag_steps waiting word h plain = plain_steps waiting word h
  flag_steps waiting word h refused = plain_steps waiting word h

  long_steps : (waiting : Waiting) (word : Text) (long : Option (Text × Option Text)) (h : Held) → StepsWell (long_or_other s.rules waiting word long h).1
  long_steps waiting word (Some p) h = flag_steps waiting word _ _
  long_steps waiting word None h = go (short_of word)
    where
      go : (flags : Option Text) → StepsWell (short_or_plain s.rules waiting word flags h).1
      go None = plain_steps waiting word h
      go (Some flags) = flag_steps waiting word _ _

  word_steps : (is_trailing : Bool) (waiting : Waiting) (position : ℕ) (word : Text) (h : Held) → word_fault s names is_trailing waiting word h ≡ []
      → StepsWell (word_met s.rules names is_trailing waiting position word h).1
  word_steps true waiting position word h e = tt
  word_steps false waiting position word h e = go (subcommand_met names waiting word) e
    where
      dashes : (b : Bool) → StepsWell (cond b (h, trailing position) (long_or_other s.rules waiting word (long_of word) h)).1
      dashes true = tt
      dashes false = long_steps waiting word (long_of word) h

      go : (met : Option Text) → other_fault s met word h ≡ [] → StepsWell (subcommand_or_other s.rules met waiting position word h).1
      go (Some name) e = other_name (bytes_eq name (codes "help")) s.disable_help_subcommand _ (λ same. cc) helps e
      go None e = dashes (bytes_eq word (45 ∷ 45 ∷ []))

  step_stops : (w : Walk) (word : Text) (h : Held) (step : Step) → StepsWell step → StopsWell w.stopped → StopsWell (after_step s.rules word w h step).stopped
  step_stops w word h (next waiting) well g = g
  step_stops w word h (trailing position) well g = g
  step_stops w word h (subcommand name) well g = well
  step_stops w word h value well g = go (arg_by_index s.rules w.position)
    where
      go : (found : Option Rule) → StopsWell (to_positional s.rules found word w h).stopped
      go None = g
      go (Some a) = tt

  turn_stops : (w : Walk) (word : Text) → turn_fault s names w word ≡ [] → StopsWell w.stopped → StopsWell (walked s.rules names w word).stopped
  unfolding walked
  turn_stops w word e g = go w.stopped g e
    where
      met : Held × Step
      met = word_met s.rules names w.is_trailing w.waiting w.position word w.held

      go : (stopped : Option (Text × List Text)) → StopsWell stopped
          → cond (is_some stopped) [] (or_else (word_fault s names w.is_trailing w.waiting word w.held) (step_fault s w.position met.0 met.1)) ≡ []
          → StopsWell (walked_from s.rules names stopped w word).stopped
      go (Some p) well e = well
      go None well e =
          let parts = or_split (word_fault s names w.is_trailing w.waiting word w.held) _ e in
          step_stops w word met.0 met.1 (word_steps w.is_trailing w.waiting w.position word w.held parts.0) g

  pub walk_stops : (w : Walk) (words : List Text) → walk_fault s names w words ≡ [] → StopsWell w.stopped → StopsWell (fold (walked s.rules names) w words).stopped
  unfolding walk_fault
  walk_stops w [] e g = g
  walk_stops w (word ∷ words) e g =
      let parts = or_split (turn_fault s names w word) _ e in
      walk_stops (walked s.rules names w word) words parts.1 (turn_stops w word parts.0 g)
