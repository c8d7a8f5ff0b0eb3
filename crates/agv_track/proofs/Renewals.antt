-- Tests of acts with new statuses, and of the pairs of an act and its new status.
use Rattle.std.proofs.Common.{◌≡◌, ℕ, Bool, true, false, ◌||◌, not, List, [], ◌∷◌, map, refl, sym, ap, ◌∙◌}
use Rattle.std.specs.List.{list_any, list_all, zip}
use Rattle.std.proofs.lemmas.List.Folds.{list_all-map}
use Rattle.agv_message_core.specs.declared.status.Status.{Status}
use Rattle.agv_order.specs.WellFormed.{is_picked}
use Rattle.agv_order.specs.declared.act.Act.{Act}
use Rattle.agv_track.specs.Acts.{is_pick_of}
use Rattle.agv_track.specs.Reports.{with_status, renewed}

pub list_any-map : {X Y : Type 0} (p : Y → Bool) (f : X → Y) (xs : List X) → list_any p (map f xs) ≡ list_any (λ x. p (f x)) xs
list_any-map p f [] = refl
list_any-map p f (x ∷ xs) = ap (λ b. p (f x) || b) (list_any-map p f xs)

-- a test of all acts with their new statuses
pub all_renewed : (p : Act → Bool) (acts : List Act) (statuses : List Status) → list_all p (renewed acts statuses) ≡ list_all (λ pair. p (with_status pair)) (zip acts statuses)
all_renewed p acts statuses = list_all-map p with_status (zip acts statuses)

-- a test of some act with its new status
pub any_renewed : (p : Act → Bool) (acts : List Act) (statuses : List Status) → list_any p (renewed acts statuses) ≡ list_any (λ pair. p (with_status pair)) (zip acts statuses)
any_renewed p acts statuses = list_any-map p with_status (zip acts statuses)

-- a finished drop is in its turn where the load was picked
pub picked_first : (is_drop_done found : Bool) (acts : List Act) (statuses : List Status) (job : List ℕ) → is_drop_done ≡ true
    → found ≡ list_any (λ pair. is_pick_of job (with_status pair)) (zip acts statuses)
    → found ≡ (not is_drop_done || is_picked (renewed acts statuses) job)
picked_first true found acts statuses job done is = is ∙ sym (any_renewed (is_pick_of job) acts statuses)
picked_first false found acts statuses job done is = cc

-- ---- what the code finds among the statuses that it was given holds of the new ones
pub all_new : (p : Act → Bool) (b : Bool) (given acts : List Act) (statuses news : List Status)
    → b ≡ list_all (λ pair. p (with_status pair)) (zip given statuses) → given ≡ acts → zip acts statuses ≡ zip acts news
    → b ≡ list_all p (renewed acts news)
all_new p b given acts statuses news found same are_new =
    found ∙ ap (λ all. list_all (λ pair. p (with_status pair)) (zip all statuses)) same ∙ ap (list_all (λ pair. p (with_status pair))) are_new ∙ sym (all_renewed p acts news)

pub any_new : (p : Act → Bool) (b : Bool) (given acts : List Act) (statuses news : List Status)
    → b ≡ list_any (λ pair. p (with_status pair)) (zip given statuses) → given ≡ acts → zip acts statuses ≡ zip acts news
    → b ≡ list_any p (renewed acts news)
any_new p b given acts statuses news found same are_new =
    found ∙ ap (λ all. list_any (λ pair. p (with_status pair)) (zip all statuses)) same ∙ ap (list_any (λ pair. p (with_status pair))) are_new ∙ sym (any_renewed p acts news)

-- the acts with the statuses that the code was given
pub same_renewed : (given acts : List Act) (statuses news : List Status) → given ≡ acts → zip acts statuses ≡ zip acts news → renewed given statuses ≡ renewed acts news
same_renewed given acts statuses news same are_new = ap (λ all. renewed all statuses) same ∙ ap (map with_status) are_new
