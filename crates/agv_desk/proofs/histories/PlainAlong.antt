-- What the calls that touch no trip, and those that put a vehicle without one, leave of the history of a world.
use Rattle.std.proofs.Common.{◌≡◌, ◌<◌, inl, inr, ℕ, ◌+◌, nat_lt, Bool, true, false, cond, List, [], ◌∷◌, map, Option, None, Some, Result, Ok, Err, refl, sym, subst, ◌∙◌, arith}
use Rattle.agv_header.specs.Count.{next_number}
use Rattle.agv_header.specs.declared.key.VehicleKey.{VehicleKey}
use Rattle.agv_layout.specs.Layout.{Layout}
use Rattle.agv_layout.specs.declared.fault.LayoutFault.{LayoutFault}
use Rattle.agv_layout.specs.declared.row.LayoutRow.{LayoutRow}
use Rattle.agv_message_core.specs.declared.instant.InstantKind.{InstantKind}
use Rattle.agv_message_core.specs.declared.order.ActKind.{ActKind}
use Rattle.agv_order.specs.declared.trip.Trip.{Trip}
use Rattle.agv_stock.specs.declared.place.Place.{Place}
use Rattle.agv_world_core.specs.Questions.{row_of}
use Rattle.agv_world_core.specs.Worlds.{Vehicle, World}
use Rattle.agv_world_core.specs.declared.row.Sent.{Sent}
use Rattle.agv_world_core.specs.declared.row.VehicleRow.{VehicleRow}
use Rattle.agv_desk.specs.Histories.{times}
use Rattle.agv_desk.specs.InstantSteps.{instruct, cancel, pause, resume}
use Rattle.agv_desk.specs.JobSteps.{add_job, stop_job}
use Rattle.agv_desk.specs.LayoutSteps.{if_given, set_layout}
use Rattle.agv_desk.specs.LoadSteps.{register_load, correct_load, leave_load}
use Rattle.agv_desk.specs.Outcomes.{Effect, Outcome, Nothing, RowOnly, Whole}
use Rattle.agv_desk.specs.ReadSteps.{get_order, get_instant, get_load, get_job, get_vehicle}
use Rattle.agv_desk.specs.StocktakeSteps.{Row, count_move, new_places, take_stock}
use Rattle.agv_desk.specs.VehicleSteps.{register_vehicle, place_vehicle, resync}
use Rattle.agv_desk.proofs.histories.GoingAlong.{ActsOnce, GoesAlong, RowGoesOn, RowsGoOn, TripGoesOn, TripsGoOn}
use Rattle.agv_desk.proofs.outcomes.Known.{none_some, same_some}
use Rattle.agv_desk.proofs.outcomes.Ladders.{IfMade, made_refuse_unless, made_refuse_if_none, made_checked, made_unheld}
use Rattle.agv_desk.proofs.row_changes.Steps.{missing}

-- ---- no act is carried out

-- none of the moves is of an act
abbrev pub HasNoActs : Effect → Type 0
HasNoActs effect = (kind : ActKind) (order job : List ℕ) → times kind order job effect.moves ≡ 0

counted_times : (kind : ActKind) (order job : List ℕ) (loads : List (List ℕ × Place)) → times kind order job (map count_move loads) ≡ 0
counted_times kind order job [] = refl
counted_times kind order job (load ∷ loads) = counted_times kind order job loads

-- ---- numbers of messages

-- the next number is greater
pub next_greater : (sent : Sent) (number : ℕ) → next_number sent.count ≡ Some number → sent.count < number
next_greater sent number is = by_test (nat_lt sent.count 4294967295) is
  where
    by_test : (some : Bool) → cond some (Some (sent.count + 1)) None ≡ Some number → sent.count < number
    by_test true e = let same : sent.count + 1 ≡ number = same_some e in omega (arith, same)
    by_test false e = none_some e

-- ---- ladders

made_laid : (P : Effect → Type 0) (read : Result Layout LayoutFault) (rest : Layout → Outcome) → ((layout : Layout) → IfMade P (rest layout)) → IfMade P (if_given read rest)
unfolding if_given
made_laid P (Ok layout) rest h = h layout
made_laid P (Err why) rest h = tt

module _ (world : World) (forgets : VehicleKey → Type 0) where
  abbrev P : Effect → Type 0
  P = GoesAlong world forgets

  -- ---- what is touched

  pub touches_none : (effect : Effect) → effect.touched ≡ Nothing → HasNoActs effect → P effect
  touches_none effect none acts = record {
    trips = subst (TripsGoOn world) (sym none) tt;
    rows = subst (RowsGoOn world forgets) (sym none) tt;
    acts = record { once = λ kind order job. inl (acts kind order job) };
  }

  -- what holds of the row that is told of the vehicle
  of_row : (key : VehicleKey) (row : VehicleRow) (Q : VehicleRow → Type 0) → row_of world key ≡ Some row → Q row → (other : VehicleRow) → row_of world key ≡ Some other → Q other
  of_row key row Q there holds other is = subst Q (same_some (sym there ∙ is)) holds

  pub notes_row : (effect : Effect) (key : VehicleKey) (row next : VehicleRow) → effect.touched ≡ RowOnly key row next → HasNoActs effect → row_of world key ≡ Some row → RowGoesOn (forgets key) row next → P effect
  notes_row effect key row next noted acts there goes = record {
    trips = subst (TripsGoOn world) (sym noted) tt;
    rows = subst (RowsGoOn world forgets) (sym noted) (of_row key row (λ one. RowGoesOn (forgets key) one next) there goes);
    acts = record { once = λ kind order job. inl (acts kind order job) };
  }

  pub puts_known : (effect : Effect) (key : VehicleKey) (old : Option Vehicle) (new : Vehicle) (row : VehicleRow) → effect.touched ≡ Whole key old new → ActsOnce world effect
      → row_of world key ≡ Some row → RowGoesOn (forgets key) row new.row → ((trip : Trip) → new.trip ≡ Some trip → TripGoesOn world key trip) → P effect
  puts_known effect key old new row put acts there goes trips = record {
    trips = subst (TripsGoOn world) (sym put) trips;
    rows = subst (RowsGoOn world forgets) (sym put) (of_row key row (λ one. RowGoesOn (forgets key) one new.row) there goes);
    acts = acts;
  }

  pub puts_unknown : (effect : Effect) (key : VehicleKey) (old : Option Vehicle) (new : Vehicle) → effect.touched ≡ Whole key old new → HasNoActs effect
      → row_of world key ≡ None → new.trip ≡ None → P effect
  puts_unknown effect key old new put acts missing idle = record {
    trips = subst (TripsGoOn world) (sym put) (λ trip same. none_some (sym idle ∙ same));
    rows = subst (RowsGoOn world forgets) (sym put) (λ row is. none_some (sym missing ∙ is));
    acts = record { once = λ kind order job. inl (acts kind order job) };
  }

  -- ---- loads and jobs
  pub registers_load : (load : List ℕ) (station : Option (List ℕ)) → IfMade P (register_load world load station)
  registers_load load station = made_checked P _ _ (made_refuse_unless P _ _ _ (λ few. touches_none _ refl (λ kind order job. refl)))

  pub corrects_load : (load reference : List ℕ) (station : Option (List ℕ)) → IfMade P (correct_load world load reference station)
  corrects_load load reference station =
      made_refuse_unless P _ _ _ (λ new. made_checked P _ _ (made_refuse_unless P _ _ _ (λ few. touches_none _ refl (λ kind order job. refl))))

  pub lets_load_leave : (load reference : List ℕ) → IfMade P (leave_load world load reference)
  lets_load_leave load reference =
      made_refuse_unless P _ _ _ (λ new. made_checked P _ _ (made_refuse_unless P _ _ _ (λ few. touches_none _ refl (λ kind order job. refl))))

  pub adds_job : (job load to : List ℕ) → IfMade P (add_job world job load to)
  adds_job job load to = made_checked P _ _ (made_refuse_if_none P _ _ _ (λ origin is. made_refuse_unless P _ _ _ (λ few. touches_none _ refl (λ kind order of. refl))))

  pub stops_job : (job : List ℕ) → IfMade P (stop_job world job)
  stops_job job = made_refuse_if_none P _ _ _ (λ row is. made_refuse_unless P _ _ _ (λ waits. touches_none _ refl (λ kind order of. refl)))

  pub takes_stock : (reference : List ℕ) (rows : List Row) → IfMade P (take_stock world reference rows)
  takes_stock reference rows =
      made_refuse_unless P _ _ _ (λ a. made_refuse_unless P _ _ _ (λ b. made_refuse_unless P _ _ _ (λ c.
      made_refuse_unless P _ _ _ (λ d. made_refuse_unless P _ _ _ (λ e. made_refuse_unless P _ _ _ (λ f. made_refuse_unless P _ _ _ (λ g.
      touches_none _ refl (λ kind order job. counted_times kind order job (new_places world rows)))))))))

  pub sets_layout : (rows : List LayoutRow) → IfMade P (set_layout world rows)
  sets_layout rows = made_refuse_unless P _ _ _ (λ unset. made_laid P _ _ (λ layout. touches_none _ refl (λ kind order job. refl)))

  -- ---- what is only told
  pub tells_order : (key : VehicleKey) → IfMade P (get_order world key)
  tells_order key = made_refuse_if_none P _ _ _ (λ row is. touches_none _ refl (λ kind order job. refl))

  pub tells_instant : (key : VehicleKey) → IfMade P (get_instant world key)
  tells_instant key = made_refuse_if_none P _ _ _ (λ row is. touches_none _ refl (λ kind order job. refl))

  pub tells_load : (load : List ℕ) → IfMade P (get_load world load)
  tells_load load = made_refuse_if_none P _ _ _ (λ place is. touches_none _ refl (λ kind order job. refl))

  pub tells_job : (job : List ℕ) → IfMade P (get_job world job)
  tells_job job = made_refuse_if_none P _ _ _ (λ row is. touches_none _ refl (λ kind order job. refl))

  pub tells_vehicle : (key : VehicleKey) → IfMade P (get_vehicle world key)
  tells_vehicle key = made_refuse_if_none P _ _ _ (λ row is. touches_none _ refl (λ kind order job. refl))

  -- ---- the row of a vehicle
  instructs : (at : ℕ) (key : VehicleKey) (row : VehicleRow) (kind : InstantKind) → row_of world key ≡ Some row → IfMade P (instruct at key row kind)
  instructs at key row kind there =
      made_refuse_unless P _ _ _ (λ free. made_refuse_if_none P _ _ _ (λ number next.
      let more : row.instants.count < number = next_greater row.instants number next in
      notes_row _ key row _ refl (λ kind order job. refl) there (record {
        count = omega (arith, more);
        pending = λ same pending is. absurd (omega (arith, more, same));
        header = λ last is. inl (last, is, omega arith);
      })))

  pub cancels : (at : ℕ) (key : VehicleKey) → IfMade P (cancel world at key)
  cancels at key = made_refuse_if_none P _ _ _ (λ row there. made_refuse_unless P _ _ _ (λ has. instructs at key row _ there))

  pub pauses : (at : ℕ) (key : VehicleKey) → IfMade P (pause world at key)
  pauses at key = made_refuse_if_none P _ _ _ (λ row there. instructs at key row _ there)

  pub resumes : (at : ℕ) (key : VehicleKey) → IfMade P (resume world at key)
  resumes at key = made_refuse_if_none P _ _ _ (λ row there. instructs at key row _ there)

  -- the number of the last state is forgotten
  pub begins_anew : (key : VehicleKey) → forgets key → IfMade P (resync world key)
  begins_anew key forgotten = made_refuse_if_none P _ _ _ (λ row there.
      notes_row _ key row _ refl (λ kind order job. refl) there (record {
        count = omega arith;
        pending = λ same kind is. is;
        header = λ last is. inr forgotten;
      }))

  -- ---- a vehicle that stands without a trip
  pub registers_vehicle : (seats : ℕ) (key : VehicleKey) (node : List ℕ) (capacity : ℕ) → IfMade P (register_vehicle seats world key node capacity)
  registers_vehicle seats key node capacity =
      made_refuse_unless P _ _ _ (λ free. made_refuse_unless P _ _ _ (λ known_node. made_unheld P _ _ (λ opened. made_refuse_unless P _ _ _ (λ few.
      puts_unknown _ key _ _ refl (λ kind order job. refl) (missing _ free) refl))))

  pub places_vehicle : (key : VehicleKey) (reference node : List ℕ) → IfMade P (place_vehicle world key reference node)
  places_vehicle key reference node =
      made_refuse_unless P _ _ _ (λ new_reference. made_refuse_if_none P _ _ _ (λ row there.
      made_refuse_unless P _ _ _ (λ known_node. made_unheld P _ _ (λ opened. made_refuse_unless P _ _ _ (λ few.
      puts_known _ key _ _ row refl (record { once = λ kind order job. inl refl }) there
      (record { count = omega arith; pending = λ same kind is. none_some is; header = λ last is. inl (last, is, omega arith) })
      (λ trip same. none_some same))))))
