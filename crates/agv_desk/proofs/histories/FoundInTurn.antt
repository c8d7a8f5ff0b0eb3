-- Over a list of calls from a lawful world each act that becomes finished finds its load, and each drop is for its own job.
use Rattle.std.proofs.Common.{◌≡◌, ◌⊎◌, inl, inr, ℕ, List, [], ◌∷◌, ◌++◌, append_assoc, refl, sym, ap, subst, ◌∙◌}
use Rattle.agv_message_core.specs.declared.order.ActKind.{ActKind}
use Rattle.agv_message_core.specs.declared.order.ActKind.TheVariants.{Drop}
use Rattle.agv_stock.specs.Phase.{is_live}
use Rattle.agv_world_core.specs.StockInvariant.{Places}
use Rattle.agv_world_core.specs.Lawful.{IsLawful}
use Rattle.agv_world_core.specs.Worlds.{World}
use Rattle.agv_desk.specs.ActedMoves.{DropsForItsJob, DropsLoads, FindsItsLoad, FindsLoads, HasEffectAfter, IsFoundIn}
use Rattle.agv_desk.specs.Outcomes.{Acted, Effect, Made, Move, Outcome, Refused, after, moved, moves_of}
use Rattle.agv_desk.specs.Step.{moves, step, steps}
use Rattle.agv_desk.specs.WellTyped.{AreWellTyped}
use Rattle.agv_desk.specs.declared.call.Call.{Call}
use Rattle.agv_desk.proofs.histories.LawfulLists.{typed_first}
use Rattle.agv_desk.proofs.histories.PlacesPut.{places_put}

-- each call finds its loads
abbrev pub FindsEachLoad : ℕ → Type 0
FindsEachLoad seats = (world : World) (at : ℕ) (made : Call) (effect : Effect) → IsLawful seats world → step seats world at made ≡ Made effect → FindsLoads world effect

-- each list of calls keeps a lawful world lawful
abbrev pub StaysLawful : ℕ → Type 0
StaysLawful seats = (world : World) (calls : List (ℕ × Call)) → IsLawful seats world → AreWellTyped calls → IsLawful seats (steps seats world calls)

-- ---- a drop

drop_for : (world : World) (places : Places) (move : Move) (order job : List ℕ) → FindsItsLoad world places move Drop order job → DropsForItsJob world move job
drop_for world places move order job finds = record {
  row = finds.row;
  here = finds.here;
  rides = finds.rides;
  live = ap is_live finds.rides;
  load = finds.load;
  to = finds.to;
}

-- ---- moves that stand in two lists, one after the other

-- the move is in the first list
record IsFirst (xs : List Move) (before : List Move) (move : Move) : Type 0 where
  rest : List Move
  here : xs ≡ before ++ (move ∷ rest)

-- or in the other one
record IsLater (xs ys : List Move) (before : List Move) (move : Move) : Type 0 where
  first : List Move
  rest : List Move
  behind : before ≡ xs ++ first
  here : ys ≡ first ++ (move ∷ rest)

same_parts : (x y : Move) (xs ys : List Move) → x ∷ xs ≡ y ∷ ys → (x ≡ y) × (xs ≡ ys)
same_parts x y xs ys e = (ap (λ (l : List Move). elim l [ z ∷ zs ↦ z | [] ↦ x ]) e, ap (λ (l : List Move). elim l [ z ∷ zs ↦ zs | [] ↦ xs ]) e)

first_or_later : (xs ys before after : List Move) (move : Move) → xs ++ ys ≡ before ++ (move ∷ after) → IsFirst xs before move ⊎ IsLater xs ys before move
first_or_later [] ys before after move e = inr (record { first = before; rest = after; behind = refl; here = e })
first_or_later (x ∷ xs) ys [] after move e =
    let same = same_parts x move (xs ++ ys) after e in
    inl (record { rest = xs; here = ap (λ (m : Move). m ∷ xs) same.0 })
first_or_later (x ∷ xs) ys (y ∷ before) after move e =
    let same = same_parts x y (xs ++ ys) (before ++ (move ∷ after)) e in
    elim (first_or_later xs ys before after move same.1) as (λ _. IsFirst (x ∷ xs) (y ∷ before) move ⊎ IsLater (x ∷ xs) ys (y ∷ before) move) [
      | inl first ↦ inl (record { rest = first.rest; here = λ i. same.0 i ∷ first.here i })
      | inr later ↦ inr (record { first = later.first; rest = later.rest; behind = λ i. sym same.0 i ∷ later.behind i; here = later.here })
    ]

moved-append : (xs ys : List Move) (places : Places) → moved places (xs ++ ys) ≡ moved (moved places xs) ys
moved-append [] ys places = refl
moved-append (x ∷ xs) ys places = moved-append xs ys _

-- ---- over the calls

module _ (seats : ℕ) (finds : FindsEachLoad seats) (lawful_steps : StaysLawful seats) where
  pub each_finds : (world : World) (calls earlier : List (ℕ × Call)) (effect : Effect) → IsLawful seats world → AreWellTyped calls
      → HasEffectAfter seats world calls earlier effect → FindsLoads (steps seats world earlier) effect
  each_finds world calls earlier effect lawful typed has =
      finds (steps seats world earlier) has.at has.made effect (lawful_steps world earlier lawful (typed_first earlier _ (subst AreWellTyped has.among typed))) has.effects

  pub each_drops : (world : World) (calls earlier : List (ℕ × Call)) (effect : Effect) → IsLawful seats world → AreWellTyped calls
      → HasEffectAfter seats world calls earlier effect → DropsLoads (steps seats world earlier) effect
  each_drops world calls earlier effect lawful typed has = record {
    drops = λ before after move order job is cause.
        drop_for (steps seats world earlier) _ move order job ((each_finds world calls earlier effect lawful typed has).finds before after move Drop order job is cause);
  }

  -- a call more before the others
  one_before : (world : World) (made : ℕ × Call) (calls : List (ℕ × Call)) (before : List Move) (move : Move) (kind : ActKind) (order job : List ℕ)
      → IsFoundIn seats (after world (step seats world made.0 made.1)) calls before move kind order job
      → IsFoundIn seats world (made ∷ calls) (moves_of (step seats world made.0 made.1) ++ before) move kind order job
  one_before world made calls before move kind order job found =
      let xs = moves_of (step seats world made.0 made.1) in
      let next = after world (step seats world made.0 made.1) in
      let places : moved next.places before ≡ moved world.places (xs ++ before) =
      ap (λ places. moved places before) (places_put seats world (made ∷ []) ∙ ap (moved world.places) (append_none xs)) ∙ sym (moved-append xs before world.places) in
      record {
        earlier = made ∷ found.earlier;
        effect = found.effect;
        served = record { at = found.served.at; made = found.served.made; later = found.served.later; among = ap (λ rest. made ∷ rest) found.served.among; effects = found.served.effects };
        first = found.first;
        rest = found.rest;
        among = found.among;
        behind = ap (λ (ms : List Move). xs ++ ms) found.behind ∙ sym (append_assoc xs (moves seats next found.earlier) found.first);
        finds = subst (λ places. FindsItsLoad (steps seats next found.earlier) places move kind order job) places found.finds;
      }
    where
      append_none : (xs : List Move) → xs ++ [] ≡ xs
      append_none [] = refl
      append_none (x ∷ xs) = ap (λ rest. x ∷ rest) (append_none xs)

  -- the first call moves the load
  by_first : (world : World) (made : ℕ × Call) (calls : List (ℕ × Call)) (lawful : IsLawful seats world) (outcome : Outcome) → step seats world made.0 made.1 ≡ outcome
      → (before : List Move) (move : Move) (kind : ActKind) (order job : List ℕ) → IsFirst (moves_of outcome) before move → move.cause ≡ Acted kind order job
      → IsFoundIn seats world (made ∷ calls) before move kind order job
  unfolding moves_of
  by_first world made calls lawful (Refused why) is [] move kind order job first cause = absurd (let none : [] ≡ move ∷ first.rest = first.here in cc)
  by_first world made calls lawful (Refused why) is (one ∷ before) move kind order job first cause = absurd (let none : [] ≡ one ∷ (before ++ (move ∷ first.rest)) = first.here in cc)
  by_first world made calls lawful (Made effect) is before move kind order job first cause = record {
    earlier = [];
    effect = effect;
    served = record { at = made.0; made = made.1; later = calls; among = refl; effects = is };
    first = before;
    rest = first.rest;
    among = first.here;
    behind = refl;
    finds = (finds world made.0 made.1 effect lawful is).finds before first.rest move kind order job first.here cause;
  }

  pub found_in_turn : (world : World) (calls : List (ℕ × Call)) (before later : List Move) (move : Move) (kind : ActKind) (order job : List ℕ)
      → IsLawful seats world → AreWellTyped calls → moves seats world calls ≡ before ++ (move ∷ later) → move.cause ≡ Acted kind order job
      → IsFoundIn seats world calls before move kind order job
  found_in_turn world [] [] later move kind order job lawful typed is cause = absurd (cc)
  found_in_turn world [] (one ∷ before) later move kind order job lawful typed is cause = absurd (cc)
  found_in_turn world (made ∷ calls) before later move kind order job lawful typed is cause =
      let outcome = step seats world made.0 made.1 in
      let next = after world outcome in
      elim (first_or_later (moves_of outcome) (moves seats next calls) before later move is) as (λ _. IsFoundIn seats world (made ∷ calls) before move kind order job) [
        | inl first ↦ by_first world made calls lawful outcome refl before move kind order job first cause
        | inr other ↦
            let found = found_in_turn next calls other.first other.rest move kind order job (lawful_steps world (made ∷ []) lawful (typed.0, typed.1, tt)) typed.2 other.here cause in
            subst (λ (all : List Move). IsFoundIn seats world (made ∷ calls) all move kind order job) (sym other.behind) (one_before world made calls other.first move kind order job found)
      ]
