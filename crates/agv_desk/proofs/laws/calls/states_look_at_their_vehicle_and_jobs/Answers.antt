use Rattle.std.specs.Prelude.{false, Option}
use Rattle.std.specs.Option.{option_map, option_and_then}
use Rattle.agv_header.specs.Count.{is_fresh}
use Rattle.agv_header.specs.declared.key.VehicleKey.{VehicleKey}
use Rattle.agv_header.specs.declared.refusal.Refusal.TheVariants as refusal
use Rattle.agv_message_core.specs.declared.state.StateMessage.{StateMessage}
use Rattle.agv_world_core.specs.Worlds.{Vehicle, World}
use Rattle.agv_desk.specs.Outcomes.{Outcome, Made, refuse_if_none, branch, answer_only}
use Rattle.agv_desk.specs.StateSteps.{fresh_state}
use Rattle.agv_desk.specs.declared.answer.Answer.TheVariants as answer
use Rattle.agv_desk.proofs.laws.calls.states_look_at_their_vehicle_and_jobs.Goals as goal

-- the step of a state, by the entry of its vehicle; of the world it takes the jobs alone
by_entry : World → VehicleKey → Option Vehicle → StateMessage → Outcome
by_entry world key entry state =
    refuse_if_none (option_map (λ (vehicle : Vehicle). vehicle.row) entry) refusal.NoVehicle (λ row.
    branch (is_fresh row.last_header state.header_id) (fresh_state world key row (option_and_then (λ (vehicle : Vehicle). vehicle.trip) entry) state)
    (Made (answer_only (answer.Accepted false))))

pub returns : goal.returns
unfolding by_entry refuse_if_none
returns c = λ world other key state entry jobs i. by_entry (record other { jobs = jobs i }) key (entry i) state
