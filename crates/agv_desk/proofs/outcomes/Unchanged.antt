-- What only tells changes nothing, and an old state neither.
use Rattle.std.proofs.Common.{◌≡◌, ◌≤◌, nat_lt, ℕ, Bool, true, false, Option, None, Some, refl, sym, ap, subst, ◌∙◌, arith}
use Rattle.std.proofs.lemmas.Bool.{false≢true}
use Rattle.std.proofs.lemmas.Bool.Decides.{nat_tests}
use Rattle.agv_header.specs.Count.{is_fresh}
use Rattle.agv_header.specs.declared.key.VehicleKey.{VehicleKey}
use Rattle.agv_header.specs.declared.refusal.Refusal.{Refusal}
use Rattle.agv_header.specs.declared.refusal.Refusal.TheVariants as refusal
use Rattle.agv_message_core.specs.declared.state.StateMessage.{StateMessage}
use Rattle.agv_world_core.specs.Questions.{trip_of}
use Rattle.agv_world_core.specs.Worlds.{World}
use Rattle.agv_desk.specs.Outcomes.{Made, Outcome, after, answer_of, branch, decided, refuse_if_none, answer_only}
use Rattle.agv_desk.specs.StateSteps.{fresh_state, take_state}
use Rattle.agv_desk.specs.Step.{step}
use Rattle.agv_desk.specs.Unchanged.{ChangesNothing, IsOld, only_tells}
use Rattle.agv_desk.specs.declared.answer.Answer.{Answer}
use Rattle.agv_desk.specs.declared.answer.Answer.TheVariants as answer
use Rattle.agv_desk.specs.declared.call.Call.{Call}
use Rattle.agv_desk.specs.declared.call.Call.TheVariants as call

-- ---- what only tells

says : (world : World) (said : Answer) → ChangesNothing world (Made (answer_only said))
unfolding after decided
says world said = (refl, refl)

-- found or not
finds : {X : Type 0} (world : World) (there : Option X) (why : Refusal) (said : X → Answer) → ChangesNothing world (refuse_if_none there why (λ x. Made (answer_only (said x))))
unfolding refuse_if_none after decided
finds world None why said = (refl, refl)
finds world (Some x) why said = (refl, refl)

pub tells : (seats : ℕ) (world : World) (at : ℕ) (made : Call) → only_tells made ≡ true → ChangesNothing world (step seats world at made)
tells seats world at (call.SetLayout rows) h = absurd (false≢true h)
tells seats world at (call.RegisterVehicle key node capacity) h = absurd (false≢true h)
tells seats world at (call.RegisterLoad load station) h = absurd (false≢true h)
tells seats world at (call.CorrectLoad load reference station) h = absurd (false≢true h)
tells seats world at (call.LeaveLoad load reference) h = absurd (false≢true h)
tells seats world at (call.AddJob job load to) h = absurd (false≢true h)
tells seats world at (call.StopJob job) h = absurd (false≢true h)
tells seats world at (call.StartOrder order key stops edges) h = absurd (false≢true h)
tells seats world at (call.StartDrive order key to edges) h = absurd (false≢true h)
tells seats world at (call.Advance key order update edges) h = absurd (false≢true h)
tells seats world at (call.Cancel key) h = absurd (false≢true h)
tells seats world at (call.Pause key) h = absurd (false≢true h)
tells seats world at (call.Resume key) h = absurd (false≢true h)
tells seats world at (call.PlaceVehicle key reference node) h = absurd (false≢true h)
tells seats world at (call.Resync key) h = absurd (false≢true h)
tells seats world at (call.State key state) h = absurd (false≢true h)
tells seats world at (call.GetOrder key) h = finds world _ _ _
tells seats world at (call.GetInstant key) h = finds world _ _ _
tells seats world at (call.Stocktake reference rows) h = absurd (false≢true h)
tells seats world at (call.GetLoad load) h = finds world _ _ _
tells seats world at (call.GetJob job) h = finds world _ _ _
tells seats world at (call.GetVehicle key) h = finds world _ _ _
tells seats world at (call.Report report) h = says world _

-- ---- an old state

not_fresh : (last number : ℕ) → number ≤ last → nat_lt last number ≡ false
not_fresh last number h = grind (arith, nat_tests)

-- it is answered so, whatever a new one would do
old_state : (world : World) (key : VehicleKey) (state : StateMessage) → IsOld world key state → take_state world key state ≡ Made (answer_only (answer.Accepted false))
unfolding refuse_if_none branch
old_state world key state old =
    let by_test : (test : Bool) → test ≡ false → branch test (fresh_state world key old.row (trip_of world key) state) (Made (answer_only (answer.Accepted false))) ≡ Made (answer_only (answer.Accepted false)) =
    λ test. elim test as (λ t. t ≡ false → branch t (fresh_state world key old.row (trip_of world key) state) (Made (answer_only (answer.Accepted false))) ≡ Made (answer_only (answer.Accepted false))) [
      | true ↦ λ is. absurd (false≢true (sym is))
      | false ↦ λ is. refl
    ] in
    ap (λ row. refuse_if_none row refusal.NoVehicle (λ row. branch (is_fresh row.last_header state.header_id) (fresh_state world key row (trip_of world key) state) (Made (answer_only (answer.Accepted false))))) old.known
    ∙ by_test (is_fresh old.row.last_header state.header_id) (ap (λ last. is_fresh last state.header_id) old.accepted ∙ not_fresh old.last state.header_id old.no_later)

accepts : (world : World) → (answer_of (Made (answer_only (answer.Accepted false))) ≡ answer.Accepted false) × ChangesNothing world (Made (answer_only (answer.Accepted false)))
unfolding answer_of after decided
accepts world = (refl, (refl, refl))

pub leaves_all : (seats : ℕ) (world : World) (at : ℕ) (key : VehicleKey) (state : StateMessage) → IsOld world key state
    → (answer_of (step seats world at (call.State key state)) ≡ answer.Accepted false) × ChangesNothing world (step seats world at (call.State key state))
leaves_all seats world at key state old =
    subst (λ (outcome : Outcome). (answer_of outcome ≡ answer.Accepted false) × ChangesNothing world outcome) (sym (old_state world key state old)) (accepts world)
