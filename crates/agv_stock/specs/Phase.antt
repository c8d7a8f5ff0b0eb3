-- The phases of a job (this project's profile).
use Rattle.std.specs.Prelude.{ℕ, Bool, true, false, List, codes}
use Rattle.agv_stock.specs.declared.job.Phase.{Phase}
use Rattle.agv_stock.specs.declared.job.Phase.TheVariants.{Waiting, Riding, Done, Stopped}

-- a job is live while it waits for a vehicle or rides on one
abbrev pub is_live : Phase → Bool
is_live Waiting = true
is_live Riding = true
is_live Done = false
is_live Stopped = false

-- the word for a phase, in the tables, the exports and the answers
abbrev pub phase_name : Phase → List ℕ
phase_name Waiting = codes "waiting"
phase_name Riding = codes "riding"
phase_name Done = codes "done"
phase_name Stopped = codes "stopped"
