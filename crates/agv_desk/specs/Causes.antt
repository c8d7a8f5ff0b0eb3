-- Why the loads of a call move: the loads of a call move for one kind of cause, or not at all.
use Rattle.std.specs.Prelude.{Bool, true, false}
use Rattle.agv_desk.specs.Outcomes.{Cause, Registered, Recorded, Acted}
use Rattle.agv_desk.specs.declared.answer.Answer.{Answer}
use Rattle.agv_desk.specs.declared.answer.Answer.TheVariants as answer
use Rattle.agv_desk.specs.declared.call.Call.{Call}
use Rattle.agv_desk.specs.declared.call.Call.TheVariants as call

-- the answer is a refusal
abbrev pub is_refusal : Answer → Bool
is_refusal (answer.Refused why) = true
is_refusal _ = false

-- the load was registered
abbrev pub is_registered : Cause → Bool
is_registered Registered = true
is_registered Recorded = false
is_registered (Acted kind order job) = false

-- a person or a stocktake has recorded where the load is
abbrev pub is_recorded : Cause → Bool
is_recorded Registered = false
is_recorded Recorded = true
is_recorded (Acted kind order job) = false

-- an act of an order is finished
abbrev pub is_acted : Cause → Bool
is_acted Registered = false
is_acted Recorded = false
is_acted (Acted kind order job) = true

-- the causes for which a call moves loads: a registration registers a load; a correction, a leave and a stocktake record where loads are; a state finishes acts; no other call moves a load
abbrev pub moves_for : Call → Cause → Bool
moves_for (call.RegisterLoad load station) cause = is_registered cause
moves_for (call.CorrectLoad load reference station) cause = is_recorded cause
moves_for (call.LeaveLoad load reference) cause = is_recorded cause
moves_for (call.Stocktake reference rows) cause = is_recorded cause
moves_for (call.State key state) cause = is_acted cause
moves_for _ cause = false
