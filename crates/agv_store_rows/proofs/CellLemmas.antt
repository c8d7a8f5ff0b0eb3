-- A value is told by what was written of it, and what tells a value is what is written of it.
use Rattle.std.proofs.Common.{◌≡◌, ◌≤◌, ℕ, pos, negsuc, Bool, true, false, cond, nat_le, List, [], ◌∷◌, Option, None, Some, IfSome, find, refl, ap, ◌∙◌}
use Rattle.std.proofs.lemmas.Bool.{le-leb}
use Rattle.std.proofs.lemmas.Slice.Eq.{bytes_eq-Decides}
use Rattle.std.specs.Str.{bytes_eq}
use Rattle.std.specs.Cmp.{signed_Decides}
use Rattle.sqlite.specs.Values.{or_null}
use Rattle.sqlite_value.specs.declared.value.Value.{Value}
use Rattle.sqlite_value.specs.declared.value.Value.TheVariants.{Null, Int, Real, Text, Blob}
use Rattle.std.specs.Ordering.{int_eq}
use Rattle.agv_header.specs.Name.{IsName, is_name}
use Rattle.agv_message_core.specs.Instant.{instant_name}
use Rattle.agv_message_core.specs.Order.{act_name}
use Rattle.agv_message_core.specs.Status.{status_name, statuses}
use Rattle.agv_message_core.specs.declared.instant.InstantKind.{InstantKind}
use Rattle.agv_message_core.specs.declared.instant.InstantKind.TheVariants as instant
use Rattle.agv_message_core.specs.declared.order.ActKind.{ActKind}
use Rattle.agv_message_core.specs.declared.order.ActKind.TheVariants as act
use Rattle.agv_message_core.specs.declared.status.Status.{Status}
use Rattle.agv_message_core.specs.declared.status.Status.TheVariants as status
use Rattle.agv_stock.specs.declared.job.Phase.{Phase}
use Rattle.agv_stock.specs.declared.job.Phase.TheVariants as phase
use Rattle.agv_world_core.specs.declared.key.UseKind.{UseKind}
use Rattle.agv_world_core.specs.declared.key.UseKind.TheVariants as used
use Rattle.agv_stock.specs.Phase.{phase_name}
use Rattle.agv_store_rows.specs.ValueEncodings.{if_some, name_in, number_cell, number_in, flag_cell, flag_in, moment_in, word_in, phases, instants, act_kinds, use_kinds, place_kinds, thing_kinds, phase_in, status_in, instant_in, act_kind_in, place_name, place_kind_in, thing_name, thing_kind_in, use_name, use_in, is_absent, maybe_in}
use Rattle.agv_store_rows.specs.declared.words.PlaceKind.{PlaceKind}
use Rattle.agv_store_rows.specs.declared.words.ThingKind.{ThingKind}

-- ---- parts

pub if_some_parts : {A B : Type 0} (o : Option A) (more : A → Option B) (y : B) → if_some o more ≡ Some y → (x : A) × (o ≡ Some x) × (more x ≡ Some y)
if_some_parts None more y e = absurd (cc e)
if_some_parts (Some x) more y e = (x, refl, e)

kept_test : {A : Type 0} (b : Bool) (x y : A) → cond b (Some x) None ≡ Some y → (b ≡ true) × (x ≡ y)
kept_test true x y e = (refl, cc e)
kept_test false x y e = absurd (cc e)

-- ---- what tells a value is what is written of it

pub name_written : (v : Value) (name : List ℕ) → name_in v ≡ Some name → v ≡ Text name
name_written Null name e = absurd (cc e)
name_written (Int n) name e = absurd (cc e)
name_written (Real x) name e = absurd (cc e)
name_written (Text t) name e = ap Text (kept_test (is_name t) t name e).1
name_written (Blob b) name e = absurd (cc e)

pub number_written : (v : Value) (n : ℕ) → number_in v ≡ Some n → v ≡ number_cell n
number_written Null n e = absurd (cc e)
number_written (Int (pos m)) n e = ap number_cell (kept_test (nat_le m 4294967295) m n e).1
number_written (Int (negsuc m)) n e = absurd (cc e)
number_written (Real x) n e = absurd (cc e)
number_written (Text t) n e = absurd (cc e)
number_written (Blob b) n e = absurd (cc e)

pub moment_written : (v : Value) (ms : ℕ) → moment_in v ≡ Some ms → v ≡ Int (pos ms)
moment_written Null ms e = absurd (cc e)
moment_written (Int (pos m)) ms e = ap number_cell (kept_test (nat_le m 4102444799999) m ms e).1
moment_written (Int (negsuc m)) ms e = absurd (cc e)
moment_written (Real x) ms e = absurd (cc e)
moment_written (Text t) ms e = absurd (cc e)
moment_written (Blob b) ms e = absurd (cc e)

word_written : {K : Type 0} (word : K → List ℕ) (all : List K) (v : Value) (one : K) → word_in word all v ≡ Some one → v ≡ Text (word one)
word_written word all Null one e = absurd (cc e)
word_written word all (Int n) one e = absurd (cc e)
word_written word all (Real x) one e = absurd (cc e)
word_written word all (Blob b) one e = absurd (cc e)
word_written {K} word all (Text t) one e = ap Text (among all e)
  where
    tested : (first : K) (more : List K) (b : Bool) → bytes_eq t (word first) ≡ b → cond b (Some first) (find (λ one. bytes_eq t (word one)) more) ≡ Some one
        → (find (λ one. bytes_eq t (word one)) more ≡ Some one → t ≡ word one) → t ≡ word one
    tested first more true same e later = (bytes_eq-Decides t (word first)).0 same ∙ ap word (let f : first ≡ one = cc e in f)
    tested first more false other e later = later e

    among : (all : List K) → find (λ one. bytes_eq t (word one)) all ≡ Some one → t ≡ word one
    among [] e = absurd (cc e)
    among (first ∷ more) e = tested first more (bytes_eq t (word first)) refl e (among more)

pub phase_written : (v : Value) (one : Phase) → phase_in v ≡ Some one → v ≡ Text (phase_name one)
unfolding phase_in
phase_written = word_written phase_name phases

pub status_written : (v : Value) (one : Status) → status_in v ≡ Some one → v ≡ Text (status_name one)
unfolding status_in
status_written = word_written status_name statuses

pub instant_written : (v : Value) (one : InstantKind) → instant_in v ≡ Some one → v ≡ Text (instant_name one)
unfolding instant_in
instant_written = word_written instant_name instants

pub act_kind_written : (v : Value) (one : ActKind) → act_kind_in v ≡ Some one → v ≡ Text (act_name one)
unfolding act_kind_in
act_kind_written = word_written act_name act_kinds

pub use_written : (v : Value) (one : UseKind) → use_in v ≡ Some one → v ≡ Text (use_name one)
unfolding use_in
use_written = word_written use_name use_kinds

pub place_kind_written : (v : Value) (one : PlaceKind) → place_kind_in v ≡ Some one → v ≡ Text (place_name one)
unfolding place_kind_in
place_kind_written = word_written place_name place_kinds

pub thing_kind_written : (v : Value) (one : ThingKind) → thing_kind_in v ≡ Some one → v ≡ Text (thing_name one)
unfolding thing_kind_in
thing_kind_written = word_written thing_name thing_kinds

pub maybe_written : {X : Type 0} (read : Value → Option X) (write : X → Value) → ((v : Value) (x : X) → read v ≡ Some x → v ≡ write x)
    → (v : Value) (o : Option X) → maybe_in read v ≡ Some o → v ≡ or_null write o
maybe_written {X} read write each v o e = tested (is_absent v) refl e
  where
    some_of : (x : X) (o : Option X) → Some (Some x) ≡ Some o → v ≡ write x → v ≡ or_null write o
    some_of x None same w = absurd (let inner : Some x ≡ None = cc same in cc inner)
    some_of x (Some y) same w = let inner : x ≡ y = cc same in w ∙ ap write inner

    null_of : (w : Value) (o : Option X) → is_absent w ≡ true → ◌≡◌ {A = Option (Option X)} (Some None) (Some o) → w ≡ or_null write o
    null_of Null None h same = refl
    null_of w (Some y) h same = absurd (let inner : ◌≡◌ {A = Option X} None (Some y) = cc same in cc inner)
    null_of (Int n) None h same = absurd (cc h)
    null_of (Real n) None h same = absurd (cc h)
    null_of (Text n) None h same = absurd (cc h)
    null_of (Blob n) None h same = absurd (cc h)

    tested : (b : Bool) → is_absent v ≡ b → cond b (Some None) (if_some (read v) (λ x. Some (Some x))) ≡ Some o → v ≡ or_null write o
    tested true h same = null_of v o h same
    tested false h same = let parts = if_some_parts (read v) (λ x. Some (Some x)) o same in some_of parts.0 o parts.2 (each v parts.0 parts.1)

-- a truth value
pub flag_written : (v : Value) (flag : Bool) → flag_in v ≡ Some flag → v ≡ flag_cell flag
flag_written Null flag e = absurd (cc e)
flag_written (Real x) flag e = absurd (cc e)
flag_written (Text t) flag e = absurd (cc e)
flag_written (Blob b) flag e = absurd (cc e)
flag_written (Int n) flag e = tested (int_eq n (pos 0)) (int_eq n (pos 1)) refl refl flag e
  where
    tested : (zero_is one_is : Bool) → int_eq n (pos 0) ≡ zero_is → int_eq n (pos 1) ≡ one_is → (flag : Bool)
        → cond zero_is (Some false) (cond one_is (Some true) None) ≡ Some flag → Int n ≡ flag_cell flag
    tested true one_is a b false e = ap Int ((signed_Decides n (pos 0)).0 a)
    tested true one_is a b true e = absurd (cc e)
    tested false true a b true e = ap Int ((signed_Decides n (pos 1)).0 b)
    tested false true a b false e = absurd (cc e)
    tested false false a b flag e = absurd (cc e)

-- ---- a value is told by what was written of it

pub name_kept : (name : List ℕ) → IsName name → name_in (Text name) ≡ Some name
name_kept name is = ap (λ b. cond b (Some name) None) is

pub number_kept : (n : ℕ) → n ≤ 4294967295 → number_in (number_cell n) ≡ Some n
number_kept n h = ap (λ b. cond b (Some n) None) (le-leb n 4294967295 h)

pub moment_kept : (ms : ℕ) → ms ≤ 4102444799999 → moment_in (Int (pos ms)) ≡ Some ms
moment_kept ms h = ap (λ b. cond b (Some ms) None) (le-leb ms 4102444799999 h)

pub flag_kept : (flag : Bool) → flag_in (flag_cell flag) ≡ Some flag
flag_kept false = refl
flag_kept true = refl

pub phase_kept : (one : Phase) → phase_in (Text (phase_name one)) ≡ Some one
unfolding phase_in
phase_kept phase.Waiting = refl
phase_kept phase.Riding = refl
phase_kept phase.Done = refl
phase_kept phase.Stopped = refl

pub status_kept : (one : Status) → status_in (Text (status_name one)) ≡ Some one
unfolding status_in
status_kept status.Waiting = refl
status_kept status.Initializing = refl
status_kept status.Running = refl
status_kept status.Paused = refl
status_kept status.Finished = refl
status_kept status.Failed = refl

pub instant_kept : (one : InstantKind) → instant_in (Text (instant_name one)) ≡ Some one
unfolding instant_in
instant_kept instant.StartPause = refl
instant_kept instant.StopPause = refl
instant_kept instant.CancelOrder = refl

pub act_kind_kept : (one : ActKind) → act_kind_in (Text (act_name one)) ≡ Some one
unfolding act_kind_in
act_kind_kept act.Pick = refl
act_kind_kept act.Drop = refl

pub use_kept : (one : UseKind) → use_in (Text (use_name one)) ≡ Some one
unfolding use_in
use_kept used.Order = refl
use_kept used.Reference = refl

pub maybe_kept : {X : Type 0} (read : Value → Option X) (write : X → Value) (o : Option X)
    → IfSome o (λ x. (is_absent (write x) ≡ false) × (read (write x) ≡ Some x)) → maybe_in read (or_null write o) ≡ Some o
maybe_kept read write None h = refl
maybe_kept read write (Some x) h = ap (λ b. cond b (Some None) (if_some (read (write x)) (λ y. Some (Some y)))) h.0 ∙ ap (λ p. if_some p (λ y. Some (Some y))) h.1
