-- What a vehicle with a trip is to carry, counted in two ways: the other loads on it with the drops that are not finished, and all loads on it with the picks that are not finished.
use Rattle.std.proofs.Common.{◌≡◌, ℕ, ◌+◌, ◌↔◌, ◌&&◌, not, Bool, true, false, List, count_by, IsTrue, Option, None, Some, refl, sym, ap, ◌∙◌, arith}
use Rattle.std.specs.Cmp.Lexicographic.{nat_list_eq_equiv}
use Rattle.std.specs.FinMap as finite
use Rattle.std.specs.List.{slice_get}
use Rattle.std.proofs.lemmas.Bool.{and_from}
use Rattle.agv_header.specs.KeyOrder.{key_eq}
use Rattle.agv_header.specs.declared.key.VehicleKey.{VehicleKey}
use Rattle.agv_message_core.specs.declared.order.ActKind.{ActKind}
use Rattle.agv_message_core.specs.declared.order.ActKind.TheVariants.{Pick, Drop}
use Rattle.agv_order.specs.StopPlaces.{ArePaired}
use Rattle.agv_order.specs.Stops.{is_drop, are_paired}
use Rattle.agv_order.specs.declared.act.Act.{Act}
use Rattle.agv_order.specs.declared.stop.Stop.{Stop}
use Rattle.agv_stock.specs.Phase.{is_live}
use Rattle.agv_stock.specs.declared.job.Phase.{Phase}
use Rattle.agv_stock.specs.declared.job.Phase.TheVariants.{Waiting, Riding, Done, Stopped}
use Rattle.agv_stock.specs.declared.place.Place.{Place}
use Rattle.agv_world_core.specs.Questions.{loads_on_vehicle}
use Rattle.agv_world_core.specs.StockInvariant.{IsCarried, Jobs, Places, ActStands, to_pick, action_view, action_views, is_to_pick}
use Rattle.agv_world_core.specs.Lawful.{is_to_drop}
use Rattle.agv_world_core.specs.declared.row.JobRow.{JobRow}
use Rattle.agv_world_core.proofs.lawful_worlds.ActPlaces.{one_place, stops_of}
use Rattle.agv_world_core.proofs.lawful_worlds.OtherLoads.{DropApart, DropKnown, is_on_vehicle, is_on_some, others, own, own_and_others}
use Rattle.agv_world_core.proofs.lawful_worlds.PairCounts.{StopsTwice, counted_alike, counted_apart, counted_mapped, drops_as_picks, is_drop_of, is_pick_of}

-- paired stops are each picked once and later dropped once
abbrev pub PairsAsSaid : Type 0
PairsAsSaid = (stops : List Stop) → IsTrue (are_paired stops) ↔ ArePaired stops

-- what the two laws on stops say
pub record StopLaws : Type 0 where
  pub said : PairsAsSaid
  pub twice : StopsTwice

pub key_itself : (key : VehicleKey) → key_eq key key ≡ true
key_itself key = and_from _ _ (nat_list_eq_equiv.refl key.manufacturer) (nat_list_eq_equiv.refl key.serial)

-- a load has at most one live job
abbrev pub OneJob : Jobs → Type 0
OneJob jobs = (one other : List ℕ) (row further : JobRow) → finite.get jobs one ≡ Some row → finite.get jobs other ≡ Some further → is_live row.phase ≡ true → is_live further.phase ≡ true → row.load ≡ further.load → one ≡ other

-- the load of each job is known
abbrev pub LoadsKnown : Places → Jobs → Type 0
LoadsKnown places jobs = (job : List ℕ) (row : JobRow) → finite.get jobs job ≡ Some row → (place : Place) × (finite.get places row.load ≡ Some place)

to_drop_kind : (kind : ActKind) (finished : Bool) → (is_drop kind && not finished) ≡ true → kind ≡ Drop
to_drop_kind Pick finished is = cc
to_drop_kind Drop finished is = refl

module _ (places : Places) (jobs : Jobs) (key : VehicleKey) where
  -- each act is carried
  abbrev pub AllCarried : List Act → Type 0
  AllCarried acts = (k : ℕ) (act : Act) → slice_get acts k ≡ Some act → IsCarried places jobs key (action_view act)

  -- ---- an act that is still to drop has a live job

  stands_live : (load station : List ℕ) (kind : ActKind) (finished : Bool) (phase : Phase) → (is_drop kind && not finished) ≡ true → ActStands places key load station kind finished phase → is_live phase ≡ true
  stands_live load station Pick finished phase is stands = cc
  stands_live load station Drop true phase is stands = cc
  stands_live load station Drop false phase is stands = ap is_live stands

  live_to_drop : (act : Act) (its : IsCarried places jobs key (action_view act)) → is_to_drop act ≡ true → is_live its.row.phase ≡ true
  live_to_drop act its is = stands_live act.load act.station act.kind _ its.row.phase is its.stands

  drops_apart : OneJob jobs → (acts : List Act) → ArePaired (stops_of acts) → AllCarried acts → DropApart acts
  drops_apart one_job acts done carried i k x y at by p q same =
      let its = carried i x at in
      let other = carried k y by in
      let job : x.job ≡ y.job = one_job x.job y.job its.row other.row its.here other.here (live_to_drop x its p) (live_to_drop y other q) (its.load ∙ same ∙ sym other.load) in
      one_place acts done i k x y at by (to_drop_kind x.kind _ p ∙ sym (to_drop_kind y.kind _ q)) job

  drops_known : LoadsKnown places jobs → (acts : List Act) → AllCarried acts → DropKnown places acts
  drops_known known acts carried k act at is =
      let its = carried k act at in
      let load = known act.job its.row its.here in
      (load.0, ap (finite.get places) (sym its.load) ∙ load.1)

  -- ---- as many live jobs of the trip have their load elsewhere as picks are not finished

  -- the job is live, and its load is not on the vehicle
  abbrev is_off : Option JobRow → Bool
  is_off None = false
  is_off (Some row) = is_live row.phase && not (is_on_vehicle places key row.load)

  abbrev off : List ℕ → Bool
  off job = is_off (finite.get jobs job)

  off_is : (act : Act) (its : IsCarried places jobs key (action_view act)) → off act.job ≡ (is_live its.row.phase && not (is_on_vehicle places key act.load))
  off_is act its = ap is_off its.here ∙ ap (λ load. is_live its.row.phase && not (is_on_vehicle places key load)) its.load

  pick_off :
      (load station : List ℕ) (kind : ActKind) (finished : Bool) (phase : Phase)
      → ActStands places key load station kind finished phase
      → (not (is_drop kind) && not finished) ≡ (not (is_drop kind) && (is_live phase && not (is_on_vehicle places key load)))
  pick_off load station Pick false phase stands = sym (ap (λ p. is_live p && not (is_on_vehicle places key load)) stands.0 ∙ ap (λ o. not (is_on_some key o)) stands.1)
  pick_off load station Pick true Waiting stands = absurd (stands.0 refl)
  pick_off load station Pick true Riding stands = sym (ap (λ o. not (is_on_some key o)) (stands.1 refl) ∙ ap not (key_itself key))
  pick_off load station Pick true Done stands = refl
  pick_off load station Pick true Stopped stands = refl
  pick_off load station Drop finished phase stands = refl

  drop_off :
      (load station : List ℕ) (kind : ActKind) (finished : Bool) (phase : Phase)
      → ActStands places key load station kind finished phase
      → ((is_drop kind && not finished) && not (is_on_vehicle places key load)) ≡ (is_drop kind && (is_live phase && not (is_on_vehicle places key load)))
  drop_off load station Pick finished phase stands = refl
  drop_off load station Drop false phase stands = sym (ap (λ p. is_live p && not (is_on_vehicle places key load)) stands)
  drop_off load station Drop true phase stands = sym (ap (λ p. is_live p && not (is_on_vehicle places key load)) stands)

  ashore_due :
      StopsTwice → (acts : List Act) → IsTrue (are_paired (stops_of acts)) → AllCarried acts
      → count_by (λ (act : Act). is_to_drop act && not (is_on_vehicle places key act.load)) acts ≡ to_pick (action_views acts)
  ashore_due twice acts fits carried =
      counted_alike (λ (act : Act). is_to_drop act && not (is_on_vehicle places key act.load)) (is_drop_of off) acts (λ k act at.
      let its = carried k act at in
      drop_off act.load act.station act.kind _ its.row.phase its.stands ∙ ap (λ b. is_drop act.kind && b) (sym (off_is act its)))
      ∙ drops_as_picks off twice acts fits
      ∙ counted_alike (is_pick_of off) (λ (act : Act). is_to_pick (action_view act)) acts (λ k act at.
      let its = carried k act at in
      sym (pick_off act.load act.station act.kind _ its.row.phase its.stands ∙ ap (λ b. not (is_drop act.kind) && b) (sym (off_is act its))))
      ∙ sym (counted_mapped is_to_pick action_view acts)

  -- ---- the two counts are one

  pub within_capacity_alike :
      StopLaws → OneJob jobs → LoadsKnown places jobs → (acts : List Act) → IsTrue (are_paired (stops_of acts)) → AllCarried acts
      → others places key acts + count_by is_to_drop acts ≡ loads_on_vehicle places key + to_pick (action_views acts)
  within_capacity_alike laws one_job known acts fits carried =
      joined _ _ _ _ _ _
      (own_and_others places key acts (drops_apart one_job acts ((laws.said (stops_of acts)).0 fits) carried) (drops_known known acts carried))
      (counted_apart is_to_drop (λ (act : Act). is_on_vehicle places key act.load) acts)
      (ashore_due laws.twice acts fits carried)
    where
      joined : (others own loads ashore undone to_pick : ℕ) → others + own ≡ loads → own + ashore ≡ undone → ashore ≡ to_pick → others + undone ≡ loads + to_pick
      joined others own loads ashore undone to_pick e f g = omega (arith, e, f, g)
