-- The tables pass all tests just where they are those of a lawful world.
use Rattle.std.proofs.Common.{◌≡◌, ◌↔◌, ℕ, ◌&&◌, true, sym, subst}
use Rattle.std.proofs.lemmas.Bool.{and_from, and_parts}
use Rattle.std.specs.Prelude.{IfOk, Result, Ok, Err}
use Rattle.agv_world_core.specs.Kept.{Keeps}
use Rattle.agv_world_core.specs.Lawful.{IsLawful}
use Rattle.agv_world_core.specs.LawfulParts.{HasLawfulVehicles}
use Rattle.agv_world_lawful.specs.LawfulTests.{are_lawful_vehicles}
use Rattle.agv_world_lawful.specs.LoadTests.{are_lawful_loads}
use Rattle.agv_world_core.specs.Told.{world_of}
use Rattle.agv_world_lawful.specs.Values.{HasValues}
use Rattle.agv_world_core.specs.Worlds.{World}
use Rattle.agv_world_core.specs.declared.world.World.{World as Tables}
use Rattle.agv_world_core.proofs.LawfulInParts.{lawful_by, loads_of, vehicles_of}
use Rattle.agv_world_lawful.proofs.load_tests.LoadsTold.{AreNamed, loads_tested}

-- the tables are those of a lawful world
abbrev pub AreLawful : ℕ → Tables → Type 0
AreLawful seats tables = (world : World) × Keeps tables world × IsLawful seats world

-- what the tests of the layout, the vehicles and their trips say
pub record TestsVehicles (seats : ℕ) (tables : Tables) : Type 0 where
  pub told : are_lawful_vehicles seats tables ≡ true → Keeps tables (world_of tables) × HasLawfulVehicles seats (world_of tables)
  pub again : (world : World) → Keeps tables world → HasLawfulVehicles seats world → (world_of tables ≡ world) × (are_lawful_vehicles seats tables ≡ true)

pub lawful_told : (seats : ℕ) (tables : Tables) → HasValues tables → TestsVehicles seats tables → ((are_lawful_vehicles seats tables && are_lawful_loads tables) ≡ true) ↔ AreLawful seats tables
lawful_told seats tables values tests =
    let named : AreNamed tables = record { loads = values.loads; jobs = values.jobs } in (
      λ passed.
          let parts = and_parts _ _ passed in
          let told = tests.told parts.0 in
          (world_of tables, told.0, lawful_by told.1 ((loads_tested {seats = seats} tables told.0 told.1 named).0 parts.1)),
      λ is.
          let same = tests.again is.0 is.1 (vehicles_of is.2) in
          let lawful = subst (IsLawful seats) (sym same.0) is.2 in
          and_from _ _ same.1 ((loads_tested {seats = seats} tables (subst (Keeps tables) (sym same.0) is.1) (vehicles_of lawful) named).1 (loads_of lawful)),
    )

-- what follows of what is returned holds of it too
pub follows_ok : {A E : Type 0} (P Q : A → Type 0) → ((x : A) → P x → Q x) → (r : Result A E) → IfOk r P → IfOk r Q
follows_ok P Q f (Ok x) is = f x is
follows_ok P Q f (Err e) is = tt
