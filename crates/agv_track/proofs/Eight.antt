-- Eight statuses begin with those of at most eight acts.
use Rattle.std.proofs.Common.{◌≡◌, ℕ, zero, suc, ◌<◌, ◌≤◌, List, [], ◌∷◌, length, get_or, refl, sym, ap, ◌∙◌, arith}
use Rattle.std.specs.List.{zip, enumerate_from}
use Rattle.std.proofs.lemmas.List.FromFn.{fill_by_all, length-enumerate_from}
use Rattle.std.proofs.lemmas.List.{length-map}
use Rattle.agv_message_core.specs.declared.state.StateMessage.{StateMessage}
use Rattle.agv_message_core.specs.declared.status.Status.{Status}
use Rattle.agv_message_core.specs.declared.status.Status.TheVariants.{Waiting}
use Rattle.agv_order.specs.declared.act.Act.{Act}
use Rattle.agv_order.specs.declared.trip.Trip.{Trip}
use Rattle.agv_track.specs.Acts.{AreNew}
use Rattle.agv_track.specs.Judgements.{nth_status, eight, new_statuses}
use Rattle.agv_track.specs.Reports.{status_after}

-- the first n of the statuses, and Waiting up to n
padded : ℕ → List Status → List Status
padded zero statuses = []
padded (suc n) [] = Waiting ∷ padded n []
padded (suc n) (s ∷ statuses) = s ∷ padded n statuses

length-padded : (n : ℕ) (statuses : List Status) → length (padded n statuses) ≡ n
unfolding padded
length-padded zero statuses = refl
length-padded (suc n) [] = omega (arith, length-padded n [])
length-padded (suc n) (s ∷ statuses) = omega (arith, length-padded n statuses)

padded-at : (n : ℕ) (statuses : List Status) (k : ℕ) → k < n → get_or (padded n statuses) k Waiting ≡ nth_status statuses k
unfolding padded
padded-at zero statuses k h = absurd (omega arith)
padded-at (suc n) [] zero h = refl
padded-at (suc n) [] (suc k) h = padded-at n [] k (omega arith) ∙ none_past k
  where
    none_past : (k : ℕ) → nth_status [] k ≡ Waiting
    none_past k = refl
padded-at (suc n) (s ∷ statuses) zero h = refl
padded-at (suc n) (s ∷ statuses) (suc k) h = padded-at n statuses k (omega arith)

padded-eight : (statuses : List Status) → eight statuses ≡ padded 8 statuses
unfolding eight
padded-eight statuses = sym (fill_by_all (nth_status statuses) (padded 8 statuses) 8 Waiting (length-padded 8 statuses) (padded-at 8 statuses))

zip-padded : (n : ℕ) (acts : List Act) (statuses : List Status) → length acts ≡ length statuses → length acts ≤ n → zip acts (padded n statuses) ≡ zip acts statuses
unfolding padded
zip-padded n [] statuses same few = refl
zip-padded n (u ∷ acts) [] same few = absurd (omega arith)
zip-padded zero (u ∷ acts) (s ∷ statuses) same few = absurd (omega arith)
zip-padded (suc n) (u ∷ acts) (s ∷ statuses) same few = ap (λ pairs. (u, s) ∷ pairs) (zip-padded n acts statuses (omega arith) (omega arith))

-- at most eight acts, each with its status among the eight
pub zip-eight : (acts : List Act) (statuses : List Status) → length acts ≡ length statuses → length acts ≤ 8 → zip acts (eight statuses) ≡ zip acts statuses
zip-eight acts statuses same few = ap (zip acts) (padded-eight statuses) ∙ zip-padded 8 acts statuses same few

-- as many new statuses as acts
pub length-new_statuses : (trip : Trip) (state : StateMessage) → length trip.acts ≡ length (new_statuses trip state)
length-new_statuses trip state =
    sym (length-map (enumerate_from 0 trip.acts) (status_after state.actions trip.order) ∙ length-enumerate_from 0 trip.acts)

pub eight_are_new : (trip : Trip) (state : StateMessage) (statuses : List Status) → length trip.acts ≤ 8 → statuses ≡ eight (new_statuses trip state) → AreNew trip state statuses
eight_are_new trip state statuses few is = ap (zip trip.acts) is ∙ zip-eight trip.acts (new_statuses trip state) (length-new_statuses trip state) few
