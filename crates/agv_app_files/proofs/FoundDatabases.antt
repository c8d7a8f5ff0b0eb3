-- Files that hold a database are not blank; and what holds of the value of a result is carried over.
use Rattle.std.proofs.Common.{arith, ℕ, ◌<◌, ◌≤◌}
use Rattle.std.specs.Result.{IfOk}
use Rattle.std.specs.Prelude.{Result, Ok, Err}
use Rattle.sqlite_pool.specs.Opening.{IsBlankFile}
use Rattle.sqlite_pool.specs.Stored.{reserved}
use Rattle.sqlite_pool.proofs.ProbeLemmas.{not_blank}
use Rattle.sqlite_trees.specs.Tree.{Trees}
use Rattle.sqlite_wal.specs.Recovery.{Image}
use Rattle.sqlite.specs.Files.{HoldsDatabase}

pub held_is_not_blank : (image : Image) (db : Trees) → HoldsDatabase image db → (size : ℕ) → 0 < size → ¬ IsBlankFile size image
held_is_not_blank image db held size some =
    let large : 504 ≤ held.0 = (let few : reserved held.0 ≤ 8 = grind arith in omega (arith, held.1.0)) in
    not_blank held.0 image held.2.pages held.2.found large held.2.ours.file.sound size some

pub map_ok : {A E : Type 0} {P Q : A → Type 0} (r : Result A E) → ((a : A) → P a → Q a) → IfOk r P → IfOk r Q
map_ok (Ok a) f p = f a p
map_ok (Err e) f p = p
