-- The kinds of things that are counted, and how many of each there may be (this project's profile).
use Rattle.std.specs.Prelude.{ℕ, Bool, true, false, if◌then◌else◌, Option, None, Some}
use Rattle.agv_header.specs.Limits.{most_records, most_vehicles}
use Rattle.agv_world_core.specs.declared.floor.Counted.{Counted}
use Rattle.agv_world_core.specs.declared.floor.Counted.TheVariants as counted

-- the two kinds are the same
abbrev pub is_kind : Counted → Counted → Bool
is_kind counted.Vehicles counted.Vehicles = true
is_kind counted.Loads counted.Loads = true
is_kind counted.Jobs counted.Jobs = true
is_kind counted.Orders counted.Orders = true
is_kind counted.References counted.References = true
is_kind _ _ = false

-- 1 if the kind is the one that grows, otherwise 0
abbrev pub one_more : Option Counted → Counted → ℕ
one_more None what = 0
one_more (Some kind) what = if is_kind kind what then 1 else 0

-- the most of a kind that there may be: 100 vehicles, and 1,000,000 of each other kind
abbrev pub limit_of : Counted → ℕ
limit_of counted.Vehicles = most_vehicles
limit_of counted.Loads = most_records
limit_of counted.Jobs = most_records
limit_of counted.Orders = most_records
limit_of counted.References = most_records
