-- The items of a JSON array as a list, and a test or a reader over them.
use Rattle.std.proofs.Common.{◌≡◌, ℕ, suc, ◌+◌, ◌<◌, ◌≤◌, List, [], ◌∷◌, ◌++◌, length, get_or, drop, Bool, ◌||◌, map, Option, Some, None, option_map, option_and_then, refl, ap, sym, ◌∙◌, append_assoc, add-one, drop-cons}
use Rattle.std.proofs.Math.ListN.{drop_of_length-le}
use Rattle.std.proofs.lemmas.List.{append-nil}
use Rattle.std.specs.List.{list_any}
use Rattle.serde_json.specs.Data.{Data}
use Rattle.serde_json.specs.Find.{as_array}
use Rattle.serde_json.specs.View.{view, items_of, items_view}
use Rattle.serde_json.specs.declared.value.Value.{Value}
use Rattle.agv_header.specs.Each.{each}
use Rattle.agv_message_json.specs.Members.{listed}

pub listed-items_of : (ds : List Data) → listed (items_of ds) ≡ ds
listed-items_of [] = refl
listed-items_of (d ∷ ds) = ap (λ rest. d ∷ rest) (listed-items_of ds)

-- the items of a member that is there and is an array
pub items_found : (d : Data) (found : Option Data) (vs : List Value) → Some d ≡ found → Some (items_view vs) ≡ as_array d → Some (map view vs) ≡ option_map listed (option_and_then as_array found)
items_found d found vs there is_array =
    ap Some (sym (listed-items_of (map view vs))) ∙ ap (option_map listed) (is_array ∙ ap (option_and_then as_array) there)

pub list_any-map : {X Y : Type 0} (p : Y → Bool) (f : X → Y) (xs : List X) → list_any p (map f xs) ≡ list_any (λ x. p (f x)) xs
list_any-map p f [] = refl
list_any-map p f (x ∷ xs) = ap (λ b. p (f x) || b) (list_any-map p f xs)

-- what stands before a list that may fail to be read
abbrev pub after : {A : Type 0} → List A → Option (List A) → Option (List A)
after found rest = option_map (λ more. found ++ more) rest

after-push : {A : Type 0} (found : List A) (x : A) (rest : Option (List A)) → after found (option_map (λ xs. x ∷ xs) rest) ≡ after (found ++ x ∷ []) rest
after-push found x None = refl
after-push found x (Some more) = ap Some (sym (append_assoc found (x ∷ []) more))

-- a list from one of its items on
from_item : {X : Type 0} (xs : List X) (i : ℕ) (x : X) → i < length xs → x ≡ get_or xs i x → drop i xs ≡ x ∷ drop (i + 1) xs
from_item xs i x below is = rw add-one (drop-cons xs i x below ∙ ap (λ y. y ∷ drop (suc i) xs) (sym is))

-- an item that is read comes to what was found before it
pub after-read : {A : Type 0} (f : Data → Option A) (vs : List Value) (i : ℕ) (v : Value) (x : A) (found more : List A) (all : Option (List A)) → i < length vs → v ≡ get_or vs i v → Some x ≡ f (view v) → more ≡ found ++ x ∷ [] → all ≡ after found (each f (map view (drop i vs))) → all ≡ after more (each f (map view (drop (i + 1) vs)))
after-read {A} f vs i v x found more all below is read pushed so_far =
    let rest : Option (List A) = each f (map view (drop (i + 1) vs)) in
    so_far
    ∙ ap (λ (ws : List Value). after found (each f (map view ws))) (from_item vs i v below is)
    ∙ ap (λ (o : Option A). after found (option_and_then (λ y. option_map (λ ys. y ∷ ys) rest) o)) (sym read)
    ∙ after-push found x rest
    ∙ ap (λ (ys : List A). after ys rest) (sym pushed)

-- an item that can't be read
pub after-unread : {A : Type 0} (f : Data → Option A) (vs : List Value) (i : ℕ) (v : Value) (found : List A) (all : Option (List A)) → i < length vs → v ≡ get_or vs i v → None ≡ f (view v) → all ≡ after found (each f (map view (drop i vs))) → all ≡ None
after-unread {A} f vs i v found all below is unread so_far =
    let rest : Option (List A) = each f (map view (drop (i + 1) vs)) in
    so_far
    ∙ ap (λ (ws : List Value). after found (each f (map view ws))) (from_item vs i v below is)
    ∙ ap (λ (o : Option A). after found (option_and_then (λ y. option_map (λ ys. y ∷ ys) rest) o)) (sym unread)

-- before the first item nothing is found
pub after-none : {A : Type 0} (found : List A) (all : Option (List A)) → found ≡ [] → all ≡ after found all
after-none found None e = refl
after-none {A} found (Some more) e = ap (λ (xs : List A). Some (xs ++ more)) (sym e)

-- after the last item all is found
pub after-all : {A : Type 0} (f : Data → Option A) (vs : List Value) (i : ℕ) (found : List A) (all : Option (List A)) → length vs ≤ i → all ≡ after found (each f (map view (drop i vs))) → Some found ≡ all
after-all {A} f vs i found all above so_far =
    sym (so_far ∙ ap (λ (ws : List Value). after found (each f (map view ws))) (drop_of_length-le vs above) ∙ ap Some (append-nil found))
