-- Acts by their places in a trip: where an act stands, its stop stands; and in stops that can be carried out a job is named once in each kind.
use Rattle.std.proofs.Common.{◌≡◌, ℕ, zero, suc, ◌<◌, ◌&&◌, ◌||◌, not, nat_eq, Bool, true, false, List, [], ◌∷◌, map, length, get_or, Contains, IsTrue, Some, refl, sym, ap, ◌∙◌, inl, inr, arith}
use Rattle.std.specs.Cmp.Lexicographic.{pointwise, same_text}
use Rattle.std.specs.List.{list_all, list_any, slice_get}
use Rattle.std.proofs.lemmas.Bool.{and_parts, or_cases}
use Rattle.agv_message_core.specs.declared.order.ActKind.{ActKind}
use Rattle.agv_message_core.specs.declared.order.ActKind.TheVariants.{Pick, Drop}
use Rattle.agv_order.specs.Statuses.{is_finished}
use Rattle.agv_order.specs.StopPlaces.{IsAt, IsPickedThenDropped, ArePaired}
use Rattle.agv_order.specs.Stops.{is_drop}
use Rattle.agv_order.specs.Trips.{Task, task_of, stop_of}
use Rattle.agv_order.specs.WellFormed.{is_in_turn, is_picked}
use Rattle.agv_order.specs.declared.act.Act.{Act}
use Rattle.agv_order.specs.declared.stop.Stop.{Stop}
use Rattle.agv_world_core.proofs.lists.Entries.{no_more, same_Some}

-- ---- lists by place

module _ {X : Type 0} where
  pub among : (xs : List X) (k : ℕ) (x : X) → slice_get xs k ≡ Some x → Contains xs x
  among [] k x at = absurd (no_more x at)
  among (y ∷ ys) zero x at = (0, omega arith, same_Some y x at)
  among (y ∷ ys) (suc k) x at = let rest = among ys k x at in (suc rest.0, omega (arith, rest.1), rest.2)

  read : (xs : List X) (k : ℕ) (x : X) → k < length xs → get_or xs k x ≡ x → slice_get xs k ≡ Some x
  read [] k x within at = absurd (omega (arith, within))
  read (y ∷ ys) zero x within at = ap Some at
  read (y ∷ ys) (suc k) x within at = read ys k x (omega (arith, within)) at

  pub place_of : (xs : List X) (x : X) → Contains xs x → (k : ℕ) × (slice_get xs k ≡ Some x)
  place_of xs x has = (has.0, read xs has.0 x has.1 has.2)

  pub any_at : (test : X → Bool) (xs : List X) → list_any test xs ≡ true → (k : ℕ) × (x : X) × (slice_get xs k ≡ Some x) × (test x ≡ true)
  any_at test [] any = cc
  any_at test (x ∷ xs) any =
      elim (or_cases (test x) (list_any test xs) any) [
        | inl passes ↦ (0, x, refl, passes)
        | inr later ↦ let rest = any_at test xs later in (suc rest.0, rest.1, rest.2, rest.3)
      ]

  pub all_at : (test : X → Bool) (xs : List X) → list_all test xs ≡ true → (k : ℕ) (x : X) → slice_get xs k ≡ Some x → test x ≡ true
  all_at test [] all k x at = absurd (no_more x at)
  all_at test (y ∷ ys) all zero x at = ap test (sym (same_Some y x at)) ∙ (and_parts (test y) (list_all test ys) all).0
  all_at test (y ∷ ys) all (suc k) x at = all_at test ys (and_parts (test y) (list_all test ys) all).1 k x at

module _ {X Y : Type 0} (f : X → Y) where
  pub mapped_at : (xs : List X) (k : ℕ) (x : X) → slice_get xs k ≡ Some x → slice_get (map f xs) k ≡ Some (f x)
  mapped_at [] k x at = absurd (no_more x at)
  mapped_at (y ∷ ys) zero x at = ap (λ z. Some (f z)) (same_Some y x at)
  mapped_at (y ∷ ys) (suc k) x at = mapped_at ys k x at

  pub from_mapped : (xs : List X) (k : ℕ) (y : Y) → slice_get (map f xs) k ≡ Some y → (x : X) × (slice_get xs k ≡ Some x) × (f x ≡ y)
  from_mapped [] k y at = absurd (no_more y at)
  from_mapped (x ∷ xs) zero y at = (x, refl, same_Some (f x) y at)
  from_mapped (x ∷ xs) (suc k) y at = from_mapped xs k y at

-- ---- acts and their stops

abbrev pub stops_of : List Act → List Stop
stops_of acts = map stop_of (map task_of acts)

pub stop_at : (acts : List Act) (k : ℕ) (act : Act) → slice_get acts k ≡ Some act → IsAt (stops_of acts) act.job act.kind k
stop_at acts k act at = mapped_at stop_of (map task_of acts) k (task_of act) (mapped_at task_of acts k act at)

-- the act at a place, of this kind and job
pub record ActAt (acts : List Act) (kind : ActKind) (job : List ℕ) : Type 0 where
  pub k : ℕ
  pub act : Act
  pub here : slice_get acts k ≡ Some act
  pub kind_is : act.kind ≡ kind
  pub job_is : act.job ≡ job

act_at : (acts : List Act) (kind : ActKind) (job : List ℕ) (k : ℕ) → IsAt (stops_of acts) job kind k → ActAt acts kind job
act_at acts kind job k at =
    let task = from_mapped stop_of (map task_of acts) k (record { kind = kind; job = job }) at in
    let act = from_mapped task_of acts k task.0 task.1 in
    record {
      k = k;
      act = act.0;
      here = act.1;
      kind_is = ap (λ (t : Task). t.kind) act.2 ∙ ap (λ (s : Stop). s.kind) task.2;
      job_is = ap (λ (t : Task). t.job) act.2 ∙ ap (λ (s : Stop). s.job) task.2;
    }

just : (kind : ActKind) (stops : List Stop) (job : List ℕ) → IsPickedThenDropped stops job → (i k : ℕ) → IsAt stops job kind i → IsAt stops job kind k → i ≡ k
just Pick stops job (pick, drop, before, picked, dropped) i k at by = picked.1 i at ∙ sym (picked.1 k by)
just Drop stops job (pick, drop, before, picked, dropped) i k at by = dropped.1 i at ∙ sym (dropped.1 k by)

module _ (acts : List Act) (done : ArePaired (stops_of acts)) where
  -- of each kind and job there is one act
  pub one_place : (i k : ℕ) (x y : Act) → slice_get acts i ≡ Some x → slice_get acts k ≡ Some y → x.kind ≡ y.kind → x.job ≡ y.job → i ≡ k
  one_place i k x y at by kind job =
      let same : ◌≡◌ {A = Stop} (record { kind = y.kind; job = y.job }) (record { kind = x.kind; job = x.job }) = λ j. record { kind = (sym kind) j; job = (sym job) j } in
      just x.kind (stops_of acts) x.job (done i (stop_of (task_of x)) (stop_at acts i x at)) i k (stop_at acts i x at) (stop_at acts k y by ∙ ap Some same)

  -- each act's job has its drop
  pub drop_of : (k : ℕ) (act : Act) → slice_get acts k ≡ Some act → ActAt acts Drop act.job
  drop_of k act at = found (done k (stop_of (task_of act)) (stop_at acts k act at))
    where
      found : IsPickedThenDropped (stops_of acts) act.job → ActAt acts Drop act.job
      found (pick, drop, before, picked, dropped) = act_at acts Drop act.job drop dropped.0

-- ---- a finished drop has a finished pick

-- a pick of the job that is finished
pub record PickDone (acts : List Act) (job : List ℕ) : Type 0 where
  pub k : ℕ
  pub act : Act
  pub here : slice_get acts k ≡ Some act
  pub pick : act.kind ≡ Pick
  pub finished : is_finished act.status ≡ true
  pub of_job : act.job ≡ job

not_drop_is_pick : (kind : ActKind) → not (is_drop kind) ≡ true → kind ≡ Pick
not_drop_is_pick Pick is = refl
not_drop_is_pick Drop is = cc

pick_done : (acts : List Act) (job : List ℕ) → is_picked acts job ≡ true → PickDone acts job
pick_done acts job picked =
    let found = any_at (λ (act : Act). not (is_drop act.kind) && is_finished act.status && pointwise nat_eq act.job job) acts picked in
    let act = found.1 in
    let parts = and_parts (not (is_drop act.kind) && is_finished act.status) (pointwise nat_eq act.job job) found.3 in
    let first = and_parts (not (is_drop act.kind)) (is_finished act.status) parts.0 in
    record {
      k = found.0;
      act = act;
      here = found.2;
      pick = not_drop_is_pick act.kind first.0;
      finished = first.1;
      of_job = same_text act.job job (sym parts.1);
    }

pub picked_before : (acts : List Act) → IsTrue (list_all (is_in_turn acts) acts) → (k : ℕ) (act : Act) → slice_get acts k ≡ Some act → act.kind ≡ Drop → is_finished act.status ≡ true → PickDone acts act.job
picked_before acts turns k act at kind finished = pick_done acts act.job (then (is_drop act.kind) (is_finished act.status) _ (ap is_drop kind) finished (all_at (is_in_turn acts) acts turns k act at))
  where
    then : (a b c : Bool) → a ≡ true → b ≡ true → (not (a && b) || c) ≡ true → c ≡ true
    then true true c p q h = h
    then true false c p q h = cc
    then false b c p q h = cc
