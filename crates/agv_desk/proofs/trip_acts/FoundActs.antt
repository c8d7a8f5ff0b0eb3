-- Each act of a trip that becomes finished finds its load: on its way through the acts of a state.
use Rattle.std.proofs.Common.{◌≡◌, ◌≤◌, ℕ, suc, Bool, true, false, List, [], ◌∷◌, ◌++◌, map, length, Option, None, Some, Ok, refl, sym, ap, subst, ◌∙◌}
use Rattle.std.specs.FinMap as finite
use Rattle.std.specs.List.{cons_option, list_all}
use Rattle.agv_header.specs.declared.key.VehicleKey.{VehicleKey}
use Rattle.agv_layout.specs.Layout.{Layout}
use Rattle.agv_message_core.specs.declared.order.ActKind.{ActKind}
use Rattle.agv_message_core.specs.declared.order.ActKind.TheVariants.{Pick, Drop}
use Rattle.agv_message_core.specs.declared.state.StateMessage.{StateMessage}
use Rattle.agv_order.specs.Statuses.{is_finished}
use Rattle.agv_order.specs.WellFormed.{is_in_turn}
use Rattle.agv_order.specs.declared.trip.Trip.{Trip}
use Rattle.agv_stock.specs.declared.place.Place.TheVariants as place
use Rattle.agv_track.proofs.Eight.{length-new_statuses, zip-eight}
use Rattle.agv_track.specs.Judgements.{eight, judged, new_acts, new_statuses, progress_of}
use Rattle.agv_track.proofs.Judging.{judged-ok}
use Rattle.agv_track.specs.Reports.{renewed, with_status}
use Rattle.agv_track.specs.declared.pending.Pending.{Pending}
use Rattle.agv_track.specs.declared.progress.Progress.{Progress}
use Rattle.agv_world_core.specs.StockInvariant.{ActionView, Jobs, Places}
use Rattle.agv_world_core.specs.ConsistentTrips.{HasTrip}
use Rattle.agv_world_core.specs.Worlds.{World}
use Rattle.agv_desk.specs.ActedMoves.{FindsItsLoad}
use Rattle.agv_desk.specs.ActSteps.{Renewed, act_move, act_moves}
use Rattle.agv_desk.specs.Outcomes.{Acted, Cause, Move, moved}
use Rattle.agv_desk.proofs.trip_acts.ActionViews.{AfterPicks, IsPicked, after, all_after, all_before, in_rest, stops_by, whole}
use Rattle.agv_desk.proofs.trip_acts.FitStops.{Fit}
use Rattle.agv_desk.proofs.trip_acts.ReservedPlaces.{reserved_place}
use Rattle.agv_desk.proofs.outcomes.Known.{none_some, same_some}
use Rattle.agv_desk.proofs.trip_acts.WalkHeads.{Untouched, move_by, row_in, untouched_next}
use Rattle.agv_desk.proofs.trip_acts.WalkSteps.{Fits, Now, an_action_view, fits_here, on_vehicle}
use Rattle.agv_desk.proofs.trip_acts.Walks.{Renews, pick_before, walk_first}

-- ---- moves one after the other

-- each move is as it should be, where the moves before it have left the loads
abbrev pub EachMove : (Places → Move → Type 0) → Places → List Move → Type 0
EachMove Is places [] = Unit {0}
EachMove Is places (move ∷ moves) = Is places move × EachMove Is (finite.insert places move.load move.place) moves

pub each_first : (Is : Places → Move → Type 0) (places : Places) (first : Option Move) (moves : List Move) → ((move : Move) → first ≡ Some move → Is places move)
    → EachMove Is (moved places (cons_option first [])) moves → EachMove Is places (cons_option first moves)
each_first Is places None moves is rest = rest
each_first Is places (Some move) moves is rest = (is move refl, rest)

nothing : {A : Type 0} (before after : List Move) (move : Move) → [] ≡ before ++ (move ∷ after) → A
nothing [] after move e = cc
nothing (first ∷ before) after move e = cc

same_first : (x y : Move) (xs ys : List Move) → x ∷ xs ≡ y ∷ ys → (x ≡ y) × (xs ≡ ys)
same_first x y xs ys e = (ap (λ (l : List Move). elim l [ z ∷ zs ↦ z | [] ↦ x ]) e, ap (λ (l : List Move). elim l [ z ∷ zs ↦ zs | [] ↦ xs ]) e)

pub each_at : (Is : Places → Move → Type 0) (moves : List Move) (places : Places) → EachMove Is places moves → (before after : List Move) (move : Move) → moves ≡ before ++ (move ∷ after)
    → Is (moved places before) move
each_at Is [] places each before after move e = nothing before after move e
each_at Is (one ∷ moves) places each [] after move e = subst (Is places) (same_first one move moves after e).0 each.0
each_at Is (one ∷ moves) places each (first ∷ before) after move e =
    let same = same_first one first moves (before ++ (move ∷ after)) e in
    subst (λ (m : Move). Is (moved (finite.insert places m.load m.place) before) move) same.0 (each_at Is moves _ each.1 before after move same.1)

-- ---- acts one after the other

-- a move that an act causes finds its load
abbrev pub Finds : World → Places → Move → Type 0
Finds world places move = (kind : ActKind) (order job : List ℕ) → move.cause ≡ Acted kind order job → FindsItsLoad world places move kind order job

-- what an act causes it causes alone
same_cause : (world : World) (places : Places) (move : Move) (kind : ActKind) (order job : List ℕ) → move.cause ≡ Acted kind order job → FindsItsLoad world places move kind order job → Finds world places move
same_cause world places move kind order job cause finds other_kind other_order other_job is =
    let same : Acted kind order job ≡ Acted other_kind other_order other_job = sym cause ∙ is in
    subst (λ k. FindsItsLoad world places move k other_order other_job) (ap kind_in same)
    (subst (λ o. FindsItsLoad world places move kind o other_job) (ap order_in same)
    (subst (λ j. FindsItsLoad world places move kind order j) (ap job_in same) finds))
  where
    kind_in : Cause → ActKind
    kind_in (Acted k o j) = k
    kind_in Cause.Registered = kind
    kind_in Cause.Recorded = kind

    order_in : Cause → List ℕ
    order_in (Acted k o j) = o
    order_in Cause.Registered = order
    order_in Cause.Recorded = order

    job_in : Cause → List ℕ
    job_in (Acted k o j) = j
    job_in Cause.Registered = job
    job_in Cause.Recorded = job

module _ (layout : Layout) (carries : VehicleKey → List ActionView) (capacity : VehicleKey → ℕ) (key : VehicleKey) (world : World) (trip : Trip) (has : HasTrip world key trip) where
  abbrev With : List ActionView → Places → Jobs → Type 0
  With carried places jobs = Now layout carries capacity key carried places jobs

  -- the first act that is left
  head_finds : (gone rest : List ActionView) (kind : ActKind) (job load station : List ℕ) (was is : Bool) (places : Places) (jobs : Jobs)
      → (was ≡ true → is ≡ true)
      → (kind ≡ Drop → was ≡ false → is ≡ true → IsPicked (whole gone (an_action_view kind job load station was ∷ rest)) job)
      → finite.get jobs job ≡ finite.get world.jobs job
      → With (whole gone (an_action_view kind job load station was ∷ rest)) places jobs
      → (move : Move) → move_by key trip.order kind job load station was is ≡ Some move → Finds world places move
  head_finds gone rest kind job load station true true places jobs renews picked same now move e = none_some e
  head_finds gone rest kind job load station true false places jobs renews picked same now move e = none_some e
  head_finds gone rest kind job load station false false places jobs renews picked same now move e = none_some e
  head_finds gone rest Pick job load station false true places jobs renews picked same now move e =
      let old : ActionView = an_action_view Pick job load station false in
      let index = in_rest gone (old ∷ rest) 0 old refl in
      let row = row_in layout carries capacity key world trip.order (whole gone (old ∷ rest)) places jobs index.0 old now index.1 same in
      let h : Fits places key old row.0 = fits_here layout carries capacity key (whole gone (old ∷ rest)) places jobs now index.0 old index.1 row.0 row.1 in
      subst (Finds world places) (same_some e)
      (same_cause world places _ Pick trip.order job refl (record {
        key = key;
        trip = trip;
        open_trip = has;
        of_order = refl;
        row = row.0;
        here = row.2;
        rides = h.stands.0;
        place_reserved = reserved_place world job row.0 row.2 h.stands.0;
        load = h.load;
        from = h.stands.1 ∙ ap (λ name. Some (place.Station name)) (sym h.station);
        to = refl;
      }))
  head_finds gone rest Drop job load station false true places jobs renews picked same now move e =
      let old : ActionView = an_action_view Drop job load station false in
      let carried : List ActionView = whole gone (old ∷ rest) in
      let index = in_rest gone (old ∷ rest) 0 old refl in
      let row = row_in layout carries capacity key world trip.order carried places jobs index.0 old now index.1 same in
      let h : Fits places key old row.0 = fits_here layout carries capacity key carried places jobs now index.0 old index.1 row.0 row.1 in
      let pick : IsPicked carried job = picked refl refl refl in
      let p : Fits places key pick.one row.0 = fits_here layout carries capacity key carried places jobs now pick.k pick.one pick.here row.0 (ap (finite.get jobs) pick.of_job ∙ row.1) in
      let aboard = on_vehicle places key pick.one.load pick.one.station pick.one.kind pick.one.finished row.0.phase pick.kind pick.finished h.stands p.stands in
      subst (Finds world places) (same_some e)
      (same_cause world places _ Drop trip.order job refl (record {
        key = key;
        trip = trip;
        open_trip = has;
        of_order = refl;
        row = row.0;
        here = row.2;
        rides = h.stands;
        place_reserved = reserved_place world job row.0 row.2 h.stands;
        load = h.load;
        from = ap (finite.get places) (sym h.load ∙ p.load) ∙ aboard;
        to = ap place.Station (sym h.station);
      }))

  -- the job of an act that is left was not written yet
  untouched_here : (act : Renewed) (acts : List Renewed) (jobs : Jobs) → Fit (stops_by (act ∷ acts)) → Untouched world (act ∷ acts) jobs → (kind : ActKind) → act.0.kind ≡ kind → finite.get jobs act.0.job ≡ finite.get world.jobs act.0.job
  untouched_here act acts jobs fit untouched Pick is = let drop = fit.1 is in untouched (suc drop.0) act.0.job drop.1
  untouched_here act acts jobs fit untouched Drop is = untouched 0 act.0.job (λ i. Some (record { kind = is i; job = act.0.job }))

  pub walk_finds : (gone : List ActionView) (acts : List Renewed) (places : Places) (jobs : Jobs) → Renews acts → Fit (stops_by acts) → AfterPicks (whole gone (all_after acts))
      → Untouched world acts jobs → With (whole gone (all_before acts)) places jobs → EachMove (Finds world) places (act_moves key trip.order acts)
  walk_finds gone [] places jobs renews fit turns untouched now = tt
  walk_finds gone (act ∷ acts) places jobs renews fit turns untouched now =
      let first = walk_first layout carries capacity key world trip.order gone act acts places jobs renews fit turns untouched now in
      each_first (Finds world) places (act_move key trip.order act) (act_moves key trip.order acts)
      (head_finds gone (all_before acts) act.0.kind act.0.job act.0.load act.0.station (is_finished act.0.status) (is_finished act.1) places jobs
      renews.0 (λ is was finishes. pick_before gone act acts fit turns is finishes) (untouched_here act acts jobs fit untouched act.0.kind refl) now)
      (walk_finds (after act ∷ gone) acts _ _ renews.1 fit.2 turns (untouched_next world false act acts jobs fit untouched) first)

-- ---- whether or not the trip ends, no drop is finished before its pick

pub turns_kept : (trip : Trip) (pending : Option Pending) (state : StateMessage) (progress : Progress) → length trip.acts ≤ 8 → judged trip pending state ≡ Ok progress
    → list_all (is_in_turn (renewed trip.acts progress.statuses)) (renewed trip.acts progress.statuses) ≡ true
unfolding progress_of
turns_kept trip pending state progress few is =
    let passed = judged-ok trip pending state progress is in
    let statuses : progress.statuses ≡ eight (new_statuses trip state) = ap (λ (p : Progress). p.statuses) passed.1 in
    let acts : renewed trip.acts progress.statuses ≡ new_acts trip state = ap (renewed trip.acts) statuses ∙ ap (map with_status) (zip-eight trip.acts (new_statuses trip state) (length-new_statuses trip state) few) in
    ap (λ all. list_all (is_in_turn all) all) acts ∙ passed.0.in_turn
