-- Which refusals the calls of the desk have (this project's profile).
use Rattle.std.specs.Prelude.{◌≤◌}
use Rattle.agv_header.specs.Refusal.{number_of}
use Rattle.agv_header.specs.declared.refusal.Refusal.{Refusal}

-- the refusal is one of a call, with a number from 20 to 81; the refusals of a request that is not a call have the numbers 1 to 14, and those of the machine 90 and 91
abbrev pub IsOfCall : Refusal → Type 0
IsOfCall why = (20 ≤ number_of why) × (number_of why ≤ 81)
