-- What holds of each call's outcome: down its ladder of checks, of the parts of the world after its effect, and of the counts. A refused call and one that only tells change nothing.
pub mod CausedMoves
pub mod CountSteps
pub mod DecisionEnds
pub mod Deciding
pub mod DrivenVehicle
pub mod EffectParts
pub mod Grown
pub mod Keeping
pub mod Known
pub mod Ladders
pub mod Plans
pub mod RefusedCalls
pub mod SentDrives
pub mod Unchanged
