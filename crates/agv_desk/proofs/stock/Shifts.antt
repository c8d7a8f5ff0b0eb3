-- One load, its job and the actions of one vehicle change together, and the stock invariant holds as before.
use Rattle.std.proofs.Common.{◌≡◌, ◌≢◌, ◌⊎◌, ◌+◌, ◌≤◌, ℕ, Bool, true, false, List, Option, Some, arith, inl, inr, sym, ap, subst, ◌∙◌}
use Rattle.std.specs.FinMap as finite
use Rattle.std.specs.List.{slice_get}
use Rattle.agv_header.specs.KeyOrder.{key_cmp-total, key_cmp-IsAntisymmetric}
use Rattle.agv_header.specs.Name.{IsName}
use Rattle.agv_header.specs.declared.key.VehicleKey.{VehicleKey}
use Rattle.agv_layout.specs.Layout.{Layout}
use Rattle.agv_message_core.specs.declared.order.ActKind.{ActKind}
use Rattle.agv_message_core.specs.declared.order.ActKind.TheVariants.{Pick, Drop}
use Rattle.agv_stock.specs.Phase.{is_live}
use Rattle.agv_stock.specs.Rooms.{is_at, is_on}
use Rattle.agv_stock.specs.declared.job.Phase.{Phase}
use Rattle.agv_stock.specs.declared.job.Phase.TheVariants.{Waiting, Riding}
use Rattle.agv_stock.specs.declared.place.Place.{Place}
use Rattle.agv_world_core.specs.StockInvariant.{ActionView, StockInvariant, IsCarried, IsJobOn, IsKnownPlace, Jobs, Places, ActStands, to_pick, stored}
use Rattle.agv_world_core.specs.Questions.{is_live_to, loads_on_vehicle, reserved_by}
use Rattle.agv_world_core.specs.declared.row.JobRow.{JobRow}
use Rattle.agv_world_core.proofs.lists.Orders.{names_total, names_apart}
use Rattle.agv_desk.proofs.lists.Writes.{IsWritten, len-written, one_if, same_or_other, tally-written, weight, written_cases, written_has}

pub live_if_riding : (phase : Phase) → phase ≡ Riding → is_live phase ≡ true
live_if_riding phase is = ap is_live is

pub live_if_waiting : (phase : Phase) → phase ≡ Waiting → is_live phase ≡ true
live_if_waiting phase is = ap is_live is

-- where the load of a job that rides stays, an action stands as before
pub stands_still : (places after : Places) (key : VehicleKey) (load station : List ℕ) (kind : ActKind) (finished : Bool) (phase : Phase)
    → (phase ≡ Riding → finite.get after load ≡ finite.get places load) → ActStands places key load station kind finished phase → ActStands after key load station kind finished phase
stands_still places after key load station Pick false phase stays stands = (stands.0, stays stands.0 ∙ stands.1)
stands_still places after key load station Pick true phase stays stands = (stands.0, λ riding. stays riding ∙ stands.1 riding)
stands_still places after key load station Drop false phase stays stands = stands
stands_still places after key load station Drop true phase stays stands = stands

pub record Shift (layout : Layout) (carries : VehicleKey → List ActionView) (capacity : VehicleKey → ℕ) (places : Places) (jobs : Jobs) : Type 0 where
  -- the actions of one vehicle
  pub key : VehicleKey
  pub before : List ActionView
  pub after : List ActionView
  pub carries_after : VehicleKey → List ActionView
  pub was : carries key ≡ before
  pub now : carries_after key ≡ after
  pub there : (other : VehicleKey) → other ≢ key → carries_after other ≡ carries other
  -- a live job, that gets a phase
  pub job : List ℕ
  pub row : JobRow
  pub next : Phase
  pub jobs_after : Jobs
  pub job_was : finite.get jobs job ≡ Some row
  pub job_is : IsWritten jobs job (record row { phase = next }) jobs_after
  pub was_live : is_live row.phase ≡ true
  pub not_waiting : next ≢ Waiting
  -- its load, that goes from a place to a place
  pub from : Place
  pub to : Place
  pub places_after : Places
  pub place_was : finite.get places row.load ≡ Some from
  pub place_is : IsWritten places row.load to places_after
  pub known_place : IsKnownPlace layout to
  -- no other vehicle has the job
  pub alone : (other : VehicleKey) (k : ℕ) (action_view : ActionView) → other ≢ key → slice_get (carries other) k ≡ Some action_view → action_view.job ≢ job
  -- the actions of other jobs are old ones, and their drops stay
  pub old : (k : ℕ) (action_view : ActionView) → slice_get after k ≡ Some action_view → action_view.job ≢ job → (i : ℕ) × (slice_get before i ≡ Some action_view)
  pub keeps : (i : ℕ) (action_view : ActionView) → slice_get before i ≡ Some action_view → action_view.kind ≡ Drop → action_view.job ≢ job → (k : ℕ) × (slice_get after k ≡ Some action_view)
  -- the actions of the job stand as they should; there is one of a kind for each job
  pub mine : (k : ℕ) (action_view : ActionView) → slice_get after k ≡ Some action_view → action_view.job ≡ job → IsCarried places_after jobs_after key action_view
  pub apart : (i k : ℕ) (action_view more : ActionView) → slice_get after i ≡ Some action_view → slice_get after k ≡ Some more → action_view.job ≡ more.job → action_view.kind ≡ more.kind → i ≡ k
  pub rides : next ≡ Riding → (k : ℕ) × (action_view : ActionView) × (slice_get after k ≡ Some action_view) × (action_view.kind ≡ Drop) × (action_view.job ≡ job) × (action_view.finished ≡ false)
  -- no station has less room; the vehicle has its places, and no other one gets a load
  pub room : (station : List ℕ) → one_if (is_at station to) + one_if (is_live_to station (record row { phase = next })) ≤ one_if (is_at station from) + one_if (is_live_to station row)
  pub within_capacity : one_if (is_on key to) + to_pick after + loads_on_vehicle places key ≤ capacity key + one_if (is_on key from)
  pub off : (other : VehicleKey) → other ≢ key → one_if (is_on other to) ≤ one_if (is_on other from)

room_kept : (n o p q n' o' p' q' c : ℕ) → n + o ≡ p + q → n' + o' ≡ p' + q' → q + q' ≤ o + o' → p + p' ≤ c → n + n' ≤ c
room_kept n o p q n' o' p' q' c e f h g = omega arith

capacity_kept : (n o p q d c : ℕ) → n + o ≡ p + q → q + d + p ≤ c + o → n + d ≤ c
capacity_kept n o p q d c e f = omega arith

capacity_still : (n o p q d c : ℕ) → n + o ≡ p + q → q ≤ o → p + d ≤ c → n + d ≤ c
capacity_still n o p q d c e f g = omega arith

module _ (layout : Layout) (carries : VehicleKey → List ActionView) (capacity : VehicleKey → ℕ) (places : Places) (jobs : Jobs) (stock : StockInvariant layout carries capacity places jobs) (c : Shift layout carries capacity places jobs) where
  abbrev row_after : JobRow
  row_after = record c.row { phase = c.next }

  place_case : (load : List ℕ) (place : Place) → finite.get c.places_after load ≡ Some place → ((load ≡ c.row.load) × (place ≡ c.to)) ⊎ ((load ≢ c.row.load) × (finite.get places load ≡ Some place))
  place_case load place there = written_cases names_total names_apart places c.row.load c.to c.places_after c.place_is load place there

  job_case : (job : List ℕ) (row : JobRow) → finite.get c.jobs_after job ≡ Some row → ((job ≡ c.job) × (row ≡ row_after)) ⊎ ((job ≢ c.job) × (finite.get jobs job ≡ Some row))
  job_case job row there = written_cases names_total names_apart jobs c.job row_after c.jobs_after c.job_is job row there

  action_view_case : (key : VehicleKey) (k : ℕ) (action_view : ActionView) → slice_get (c.carries_after key) k ≡ Some action_view → ((key ≡ c.key) × (slice_get c.after k ≡ Some action_view)) ⊎ ((key ≢ c.key) × (slice_get (carries key) k ≡ Some action_view))
  action_view_case key k action_view there = elim (same_or_other key_cmp-total key_cmp-IsAntisymmetric key c.key) [
    | inl same ↦ inl (same, subst (λ carried. slice_get carried k ≡ Some action_view) (ap c.carries_after same ∙ c.now) there)
    | inr other ↦ inr (other, subst (λ carried. slice_get carried k ≡ Some action_view) (c.there key other) there)
  ]

  in_before : (k : ℕ) (action_view : ActionView) → slice_get c.before k ≡ Some action_view → slice_get (carries c.key) k ≡ Some action_view
  in_before k action_view there = subst (λ carried. slice_get carried k ≡ Some action_view) (sym c.was) there

  in_after : (k : ℕ) (action_view : ActionView) → slice_get c.after k ≡ Some action_view → slice_get (c.carries_after c.key) k ≡ Some action_view
  in_after k action_view there = subst (λ carried. slice_get carried k ≡ Some action_view) (sym c.now) there

  -- another live job has another load
  other_load : (job : List ℕ) (row : JobRow) → finite.get jobs job ≡ Some row → is_live row.phase ≡ true → job ≢ c.job → row.load ≢ c.row.load
  other_load job row there live other same = other (stock.one_job job c.job row c.row there c.job_was live c.was_live same)

  -- an old action of another job is carried as before
  still : (key : VehicleKey) (k : ℕ) (action_view : ActionView) → slice_get (carries key) k ≡ Some action_view → action_view.job ≢ c.job → IsCarried c.places_after c.jobs_after key action_view
  still key k action_view there other =
      let was = stock.carried key k action_view there in
      record {
        row = was.row;
        here = c.job_is.there action_view.job other ∙ was.here;
        load = was.load;
        station = was.station;
        stands = stands_still places c.places_after key action_view.load action_view.station action_view.kind action_view.finished was.row.phase
            (λ riding. c.place_is.there action_view.load (λ same. other_load action_view.job was.row was.here (live_if_riding _ riding) other (was.load ∙ same))) was.stands;
      }

  other_trip : (key : VehicleKey) (i k : ℕ) (action_view more : ActionView) → slice_get c.after i ≡ Some action_view → key ≢ c.key → slice_get (carries key) k ≡ Some more → action_view.job ≡ more.job → ⊥
  other_trip key i k action_view more there other further same = elim (same_or_other names_total names_apart action_view.job c.job) [
    | inl mine ↦ c.alone key k more other further (sym same ∙ mine)
    | inr not_mine ↦ let old = c.old i action_view there not_mine in other (sym (stock.once c.key key old.0 k action_view more (in_before old.0 action_view old.1) further same).0)
  ]

  -- the load of a job is known as before
  load_known : (load : List ℕ) → ((place : Place) × (finite.get places load ≡ Some place)) → (place : Place) × (finite.get c.places_after load ≡ Some place)
  load_known load known = written_has names_total names_apart places c.row.load c.to c.places_after c.place_is load known

  known_as_before : (row : JobRow) → IsJobOn layout places row → IsJobOn layout c.places_after row
  known_as_before row known = record { load = load_known row.load known.load; origin = known.origin; target = known.target }

  known_after : IsJobOn layout c.places_after row_after
  known_after = let known = stock.known c.job c.row c.job_was in record { load = load_known c.row.load known.load; origin = known.origin; target = known.target }

  stored_after : (station : List ℕ) → stored c.places_after station + one_if (is_at station c.from) ≡ stored places station + one_if (is_at station c.to)
  stored_after station =
      subst (λ (found : Option Place). stored c.places_after station + weight (is_at station) found ≡ stored places station + one_if (is_at station c.to)) c.place_was
      (tally-written names_total names_apart (is_at station) places c.row.load c.to c.places_after c.place_is)

  reserved_after : (station : List ℕ) → reserved_by c.jobs_after station + one_if (is_live_to station c.row) ≡ reserved_by jobs station + one_if (is_live_to station row_after)
  reserved_after station =
      subst (λ (found : Option JobRow). reserved_by c.jobs_after station + weight (is_live_to station) found ≡ reserved_by jobs station + one_if (is_live_to station row_after)) c.job_was
      (tally-written names_total names_apart (is_live_to station) jobs c.job row_after c.jobs_after c.job_is)

  on_vehicle_after : (key : VehicleKey) → loads_on_vehicle c.places_after key + one_if (is_on key c.from) ≡ loads_on_vehicle places key + one_if (is_on key c.to)
  on_vehicle_after key =
      subst (λ (found : Option Place). loads_on_vehicle c.places_after key + weight (is_on key) found ≡ loads_on_vehicle places key + one_if (is_on key c.to)) c.place_was
      (tally-written names_total names_apart (is_on key) places c.row.load c.to c.places_after c.place_is)

  capacity_after : (key : VehicleKey) → loads_on_vehicle c.places_after key + to_pick (c.carries_after key) ≤ capacity key
  capacity_after key = elim (same_or_other key_cmp-total key_cmp-IsAntisymmetric key c.key) [
    | inl same ↦
        subst (λ one. loads_on_vehicle c.places_after one + to_pick (c.carries_after one) ≤ capacity one) (sym same)
        (subst (λ carried. loads_on_vehicle c.places_after c.key + to_pick carried ≤ capacity c.key) (sym c.now)
        (capacity_kept _ _ _ _ _ _ (on_vehicle_after c.key) c.within_capacity))
    | inr other ↦
        subst (λ carried. loads_on_vehicle c.places_after key + to_pick carried ≤ capacity key) (sym (c.there key other))
        (capacity_still _ _ _ _ _ _ (on_vehicle_after key) (c.off key other) (stock.within_capacity key))
  ]

  pub shift_kept : StockInvariant layout c.carries_after capacity c.places_after c.jobs_after
  shift_kept = record {
    few_loads = subst (λ n. n ≤ 1000000) (sym (len-written names_total names_apart places c.row.load c.to c.from c.places_after c.place_is c.place_was)) stock.few_loads;
    few_jobs = subst (λ n. n ≤ 1000000) (sym (len-written names_total names_apart jobs c.job row_after c.row c.jobs_after c.job_is c.job_was)) stock.few_jobs;
    loads_named = λ load place there. elim (place_case load place there) [
      | inl here ↦ subst IsName (sym here.0) (stock.loads_named c.row.load c.from c.place_was)
      | inr old ↦ stock.loads_named load place old.1
    ];
    jobs_named = λ job row there. elim (job_case job row there) [
      | inl here ↦ subst IsName (sym here.0) (stock.jobs_named c.job c.row c.job_was)
      | inr old ↦ stock.jobs_named job row old.1
    ];
    known_places = λ load place there. elim (place_case load place there) [
      | inl here ↦ subst (IsKnownPlace layout) (sym here.1) c.known_place
      | inr old ↦ stock.known_places load place old.1
    ];
    known = λ job row there. elim (job_case job row there) [
      | inl here ↦ subst (IsJobOn layout c.places_after) (sym here.1) known_after
      | inr old ↦ known_as_before row (stock.known job row old.1)
    ];
    room = λ station site there. room_kept _ _ _ _ _ _ _ _ _ (stored_after station) (reserved_after station) (c.room station) (stock.room station site there);
    within_capacity = capacity_after;
    one_job = λ one other row further there more live still_live same. elim (job_case one row there) [
      | inl here ↦ elim (job_case other further more) [
        | inl too ↦ here.0 ∙ sym too.0
        | inr old ↦ absurd (other_load other further old.1 still_live old.0 (sym same ∙ ap (λ (z : JobRow). z.load) here.1))
      ]
      | inr here ↦ elim (job_case other further more) [
        | inl too ↦ absurd (other_load one row here.1 live here.0 (same ∙ ap (λ (z : JobRow). z.load) too.1))
        | inr old ↦ stock.one_job one other row further here.1 old.1 live still_live same
      ]
    ];
    waiting = λ job row there waits. elim (job_case job row there) [
      | inl here ↦ absurd (c.not_waiting (sym (ap (λ (z : JobRow). z.phase) here.1) ∙ waits))
      | inr old ↦ c.place_is.there row.load (other_load job row old.1 (live_if_waiting _ waits) old.0) ∙ stock.waiting job row old.1 waits
    ];
    riding = λ job row there rides. elim (job_case job row there) [
      | inl here ↦
          let t = c.rides (sym (ap (λ (z : JobRow). z.phase) here.1) ∙ rides) in
          record { key = c.key; k = t.0; action_view = t.1; here = in_after t.0 t.1 t.2; drop = t.3; of_job = t.4 ∙ sym here.0; undone = t.5 }
      | inr old ↦
          let t = stock.riding job row old.1 rides in
          elim (same_or_other key_cmp-total key_cmp-IsAntisymmetric t.key c.key) [
            | inl same ↦
                let kept = c.keeps t.k t.action_view (subst (λ carried. slice_get carried t.k ≡ Some t.action_view) (ap carries same ∙ c.was) t.here) t.drop (λ mine. old.0 (sym t.of_job ∙ mine)) in
                record { key = c.key; k = kept.0; action_view = t.action_view; here = in_after kept.0 t.action_view kept.1; drop = t.drop; of_job = t.of_job; undone = t.undone }
            | inr other ↦
                record { key = t.key; k = t.k; action_view = t.action_view; here = subst (λ carried. slice_get carried t.k ≡ Some t.action_view) (sym (c.there t.key other)) t.here; drop = t.drop; of_job = t.of_job; undone = t.undone }
          ]
    ];
    carried = λ key k action_view there. elim (action_view_case key k action_view there) [
      | inl here ↦ subst (λ one. IsCarried c.places_after c.jobs_after one action_view) (sym here.0) (elim (same_or_other names_total names_apart action_view.job c.job) [
        | inl mine ↦ c.mine k action_view here.1 mine
        | inr not_mine ↦ let old = c.old k action_view here.1 not_mine in still c.key old.0 action_view (in_before old.0 action_view old.1) not_mine
      ])
      | inr old ↦ still key k action_view old.1 (c.alone key k action_view old.0 old.1)
    ];
    once = λ one other i k action_view more there further same. elim (action_view_case one i action_view there) [
      | inl here ↦ elim (action_view_case other k more further) [
        | inl too ↦ (here.0 ∙ sym too.0, c.apart i k action_view more here.1 too.1 same)
        | inr old ↦ absurd (other_trip other i k action_view more here.1 old.0 old.1 same)
      ]
      | inr here ↦ elim (action_view_case other k more further) [
        | inl too ↦ absurd (other_trip one k i more action_view too.1 here.0 here.1 (sym same))
        | inr old ↦ stock.once one other i k action_view more here.1 old.1 same
      ]
    ];
  }
