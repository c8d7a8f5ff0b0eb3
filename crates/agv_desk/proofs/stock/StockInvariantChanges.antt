-- The stock invariant holds as before where one free load gets a place, where one job is written that does not ride, and where vehicles change but for their actions.
use Rattle.std.proofs.Common.{◌≡◌, ◌≢◌, ◌⊎◌, ◌+◌, ◌≤◌, ℕ, true, false, List, Option, None, Some, arith, inl, inr, refl, sym, ap, subst, ◌∙◌}
use Rattle.std.specs.FinMap as finite
use Rattle.std.specs.List.{slice_get}
use Rattle.std.specs.Option.{option_and_then}
use Rattle.agv_header.specs.KeyOrder.{key_cmp-total, key_cmp-IsAntisymmetric}
use Rattle.agv_header.specs.Name.{IsName}
use Rattle.agv_header.specs.declared.key.VehicleKey.{VehicleKey}
use Rattle.agv_layout.specs.Layout.{Layout, IsStation}
use Rattle.agv_layout.specs.declared.station.StationSite.{StationSite}
use Rattle.agv_stock.specs.Phase.{is_live}
use Rattle.agv_stock.specs.Rooms.{is_at, is_on}
use Rattle.agv_stock.specs.declared.job.Phase.{Phase}
use Rattle.agv_stock.specs.declared.job.Phase.TheVariants.{Waiting, Riding}
use Rattle.agv_stock.specs.declared.place.Place.{Place}
use Rattle.agv_stock.specs.declared.place.Place.TheVariants as place
use Rattle.agv_world_core.specs.StockInvariant.{ActionView, StockInvariant, HasStockInvariant, IsJobOn, IsKnownPlace, Jobs, Places, capacity_for, capacity_of, action_views_by, action_views_for, action_views_of, stored}
use Rattle.agv_world_core.specs.Questions.{is_live_to, reserved_by}
use Rattle.agv_world_core.specs.VehicleChanges.{with_vehicle}
use Rattle.agv_world_core.specs.Worlds.{Vehicle, World}
use Rattle.agv_world_core.specs.declared.row.JobRow.{JobRow}
use Rattle.agv_world_core.proofs.lists.Orders.{names_total, names_apart}
use Rattle.agv_desk.proofs.stock.Shifts.{live_if_riding, live_if_waiting, stands_still}
use Rattle.agv_desk.proofs.lists.Writes.{IsWritten, is_written, one_if, same_or_other, tally-written, weight, written_cases, written_has}

-- the load is in no live job
abbrev pub IsFree : Jobs → List ℕ → Type 0
IsFree jobs load = (job : List ℕ) (row : JobRow) → finite.get jobs job ≡ Some row → is_live row.phase ≡ true → row.load ≢ load

-- a load, known or new and in no live job, gets a place that is no vehicle
pub record PlaceChange (layout : Layout) (places : Places) (jobs : Jobs) : Type 0 where
  pub load : List ℕ
  pub to : Place
  pub after : Places
  pub is : IsWritten places load to after
  pub few : finite.len after ≤ 1000000
  pub named : IsName load
  pub known_place : IsKnownPlace layout to
  pub free : IsFree jobs load
  pub ashore : (key : VehicleKey) → is_on key to ≡ false
  pub room : (station : List ℕ) (site : StationSite) → IsStation layout station site → stored places station + reserved_by jobs station + one_if (is_at station to) ≤ site.capacity + weight (is_at station) (finite.get places load)

-- a job, new or in no open trip, is written that does not ride
pub record JobChange (layout : Layout) (carries : VehicleKey → List ActionView) (places : Places) (jobs : Jobs) : Type 0 where
  pub job : List ℕ
  pub row : JobRow
  pub after : Jobs
  pub is : IsWritten jobs job row after
  pub few : finite.len after ≤ 1000000
  pub named : IsName job
  pub known : IsJobOn layout places row
  pub apart : (key : VehicleKey) (k : ℕ) (action_view : ActionView) → slice_get (carries key) k ≡ Some action_view → action_view.job ≢ job
  pub not_riding : row.phase ≢ Riding
  pub alone : is_live row.phase ≡ true → (other : List ℕ) (further : JobRow) → finite.get jobs other ≡ Some further → is_live further.phase ≡ true → further.load ≡ row.load → other ≡ job
  pub waits : row.phase ≡ Waiting → finite.get places row.load ≡ Some (place.Station row.origin)
  pub room : (station : List ℕ) (site : StationSite) → IsStation layout station site → stored places station + reserved_by jobs station + one_if (is_live_to station row) ≤ site.capacity + weight (is_live_to station) (finite.get jobs job)

room_stored : (n o p q j c : ℕ) → n + o ≡ p + q → p + j + q ≤ c + o → n + j ≤ c
room_stored n o p q j c e f = omega arith

room_coming : (n o p q l c : ℕ) → n + o ≡ p + q → l + p + q ≤ c + o → l + n ≤ c
room_coming n o p q l c e f = omega arith

count_still : (n o p q d c : ℕ) → n + o ≡ p + q → q ≡ 0 → p + d ≤ c → n + d ≤ c
count_still n o p q d c e f g = omega arith

module _ (layout : Layout) (carries : VehicleKey → List ActionView) (capacity : VehicleKey → ℕ) (places : Places) (jobs : Jobs) (stock : StockInvariant layout carries capacity places jobs) where
  module _ (c : PlaceChange layout places jobs) where
    pub place_kept : StockInvariant layout carries capacity c.after jobs
    place_kept = record {
      few_loads = c.few;
      few_jobs = stock.few_jobs;
      loads_named = λ load at there. elim (written_cases names_total names_apart places c.load c.to c.after c.is load at there) [
        | inl here ↦ subst IsName (sym here.0) c.named
        | inr old ↦ stock.loads_named load at old.1
      ];
      jobs_named = stock.jobs_named;
      known_places = λ load at there. elim (written_cases names_total names_apart places c.load c.to c.after c.is load at there) [
        | inl here ↦ subst (IsKnownPlace layout) (sym here.1) c.known_place
        | inr old ↦ stock.known_places load at old.1
      ];
      known = λ job row there.
          let known = stock.known job row there in
          record { load = written_has names_total names_apart places c.load c.to c.after c.is row.load known.load; origin = known.origin; target = known.target };
      room = λ station site there.
          room_stored _ _ _ _ _ _ (tally-written names_total names_apart (is_at station) places c.load c.to c.after c.is) (c.room station site there);
      within_capacity = λ key.
          count_still _ _ _ _ _ _ (tally-written names_total names_apart (is_on key) places c.load c.to c.after c.is) (ap one_if (c.ashore key)) (stock.within_capacity key);
      one_job = stock.one_job;
      waiting = λ job row there waits. c.is.there row.load (c.free job row there (live_if_waiting _ waits)) ∙ stock.waiting job row there waits;
      riding = stock.riding;
      carried = λ key k action_view there.
          let was = stock.carried key k action_view there in
          record {
            row = was.row;
            here = was.here;
            load = was.load;
            station = was.station;
            stands = stands_still places c.after key action_view.load action_view.station action_view.kind action_view.finished was.row.phase
                (λ riding. c.is.there action_view.load (λ same. c.free action_view.job was.row was.here (live_if_riding _ riding) (was.load ∙ same))) was.stands;
          };
      once = stock.once;
    }

  module _ (c : JobChange layout carries places jobs) where
    job_case : (job : List ℕ) (row : JobRow) → finite.get c.after job ≡ Some row → ((job ≡ c.job) × (row ≡ c.row)) ⊎ ((job ≢ c.job) × (finite.get jobs job ≡ Some row))
    job_case job row there = written_cases names_total names_apart jobs c.job c.row c.after c.is job row there

    phase_is : (row : JobRow) → row ≡ c.row → (phase : Phase) → row.phase ≡ phase → c.row.phase ≡ phase
    phase_is row same phase is = ap (λ (z : JobRow). z.phase) (sym same) ∙ is

    live_is : (row : JobRow) → row ≡ c.row → is_live row.phase ≡ true → is_live c.row.phase ≡ true
    live_is row same live = ap (λ (z : JobRow). is_live z.phase) (sym same) ∙ live

    pub job_kept : StockInvariant layout carries capacity places c.after
    job_kept = record {
      few_loads = stock.few_loads;
      few_jobs = c.few;
      loads_named = stock.loads_named;
      jobs_named = λ job row there. elim (job_case job row there) [
        | inl here ↦ subst IsName (sym here.0) c.named
        | inr old ↦ stock.jobs_named job row old.1
      ];
      known_places = stock.known_places;
      known = λ job row there. elim (job_case job row there) [
        | inl here ↦ subst (IsJobOn layout places) (sym here.1) c.known
        | inr old ↦ stock.known job row old.1
      ];
      room = λ station site there.
          room_coming _ _ _ _ _ _ (tally-written names_total names_apart (is_live_to station) jobs c.job c.row c.after c.is) (c.room station site there);
      within_capacity = stock.within_capacity;
      one_job = λ one other row further there more live still_live same. elim (job_case one row there) [
        | inl here ↦ elim (job_case other further more) [
          | inl too ↦ here.0 ∙ sym too.0
          | inr old ↦ here.0 ∙ sym (c.alone (live_is row here.1 live) other further old.1 still_live (sym same ∙ ap (λ (z : JobRow). z.load) here.1))
        ]
        | inr here ↦ elim (job_case other further more) [
          | inl too ↦ c.alone (live_is further too.1 still_live) one row here.1 live (same ∙ ap (λ (z : JobRow). z.load) too.1) ∙ sym too.0
          | inr old ↦ stock.one_job one other row further here.1 old.1 live still_live same
        ]
      ];
      waiting = λ job row there waits. elim (job_case job row there) [
        | inl here ↦ subst (λ (z : JobRow). finite.get places z.load ≡ Some (place.Station z.origin)) (sym here.1) (c.waits (phase_is row here.1 Waiting waits))
        | inr old ↦ stock.waiting job row old.1 waits
      ];
      riding = λ job row there rides. elim (job_case job row there) [
        | inl here ↦ absurd (c.not_riding (phase_is row here.1 Riding rides))
        | inr old ↦ stock.riding job row old.1 rides
      ];
      carried = λ key k action_view there.
          let was = stock.carried key k action_view there in
          record { row = was.row; here = c.is.there action_view.job (c.apart key k action_view there) ∙ was.here; load = was.load; station = was.station; stands = was.stands };
      once = stock.once;
    }

-- the same actions, and vehicles with no fewer places
pub same_stock : (layout : Layout) (carries carries_after : VehicleKey → List ActionView) (capacity capacity_after : VehicleKey → ℕ) (places : Places) (jobs : Jobs)
    → ((key : VehicleKey) → carries key ≡ carries_after key) → ((key : VehicleKey) → capacity key ≤ capacity_after key)
    → StockInvariant layout carries capacity places jobs → StockInvariant layout carries_after capacity_after places jobs
same_stock layout carries carries_after capacity capacity_after places jobs same more stock =
    let all : carries ≡ carries_after = λ i key. same key i in
    subst (λ action_views. StockInvariant layout action_views capacity_after places jobs) all (record {
      few_loads = stock.few_loads;
      few_jobs = stock.few_jobs;
      loads_named = stock.loads_named;
      jobs_named = stock.jobs_named;
      known_places = stock.known_places;
      known = stock.known;
      room = stock.room;
      within_capacity = λ key. enough _ _ _ (stock.within_capacity key) (more key);
      one_job = stock.one_job;
      waiting = stock.waiting;
      riding = stock.riding;
      carried = stock.carried;
      once = stock.once;
    })
  where
    enough : (n c d : ℕ) → n ≤ c → c ≤ d → n ≤ d
    enough n c d h k = omega arith

-- ---- one vehicle is written
pub action_views_told : (there : Option Vehicle) → action_views_by (option_and_then (λ (vehicle : Vehicle). vehicle.trip) there) ≡ action_views_for there
action_views_told None = refl
action_views_told (Some vehicle) = refl

module _ (world : World) (key : VehicleKey) (vehicle : Vehicle) where
  action_views_still : action_views_by vehicle.trip ≡ action_views_of world key → (other : VehicleKey) → action_views_of world other ≡ action_views_of (with_vehicle world key vehicle) other
  action_views_still same other = elim (same_or_other key_cmp-total key_cmp-IsAntisymmetric other key) [
    | inl is ↦
        subst (λ one. action_views_of world one ≡ action_views_of (with_vehicle world key vehicle) one) (sym is)
        (sym same ∙ ap action_views_for (sym (is_written key_cmp-total key_cmp-IsAntisymmetric world.vehicles key vehicle).here))
    | inr differs ↦ ap action_views_for (sym ((is_written key_cmp-total key_cmp-IsAntisymmetric world.vehicles key vehicle).there other differs))
  ]

  capacity_still : capacity_of world key ≤ vehicle.row.capacity → (other : VehicleKey) → capacity_of world other ≤ capacity_of (with_vehicle world key vehicle) other
  capacity_still more other = elim (same_or_other key_cmp-total key_cmp-IsAntisymmetric other key) [
    | inl is ↦
        subst (λ one. capacity_of world one ≤ capacity_of (with_vehicle world key vehicle) one) (sym is)
        (subst (λ there. capacity_of world key ≤ capacity_for there) (sym (is_written key_cmp-total key_cmp-IsAntisymmetric world.vehicles key vehicle).here) more)
    | inr differs ↦
        subst (λ there. capacity_of world other ≤ capacity_for there) (sym ((is_written key_cmp-total key_cmp-IsAntisymmetric world.vehicles key vehicle).there other differs)) (itself (capacity_of world other))
  ]
    where
      itself : (n : ℕ) → n ≤ n
      itself n = omega arith

  -- a vehicle is written with the actions that it has, and no fewer places
  pub vehicle_kept : action_views_by vehicle.trip ≡ action_views_of world key → capacity_of world key ≤ vehicle.row.capacity → HasStockInvariant world → HasStockInvariant (with_vehicle world key vehicle)
  vehicle_kept same more stock =
      same_stock world.layout (action_views_of world) (action_views_of (with_vehicle world key vehicle)) (capacity_of world) (capacity_of (with_vehicle world key vehicle)) world.places world.jobs
      (action_views_still same) (capacity_still more) stock
