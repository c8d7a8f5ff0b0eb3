-- The most of each thing that the desk keeps (this project's profile).
use Rattle.std.specs.Prelude.{ℕ}

-- the most vehicles
abbrev pub most_vehicles : ℕ
most_vehicles = 100

-- the most loads, the most jobs, the most names of orders and the most references
abbrev pub most_records : ℕ
most_records = 1000000
