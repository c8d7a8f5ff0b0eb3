use Rattle.std.proofs.Common.{◌≡◌, ◌++◌, drop, vec_len}
use Rattle.std.specs.Option.{option_map}
use Rattle.agv_store_rows.specs.TripsTold.{acts_told}
use Rattle.agv_store_rows.proofs.trip_telling.acts_told.Given as goal

-- the acts told so far, and those of the rows that are left, make all
abbrev pub invariant-loop-row : goal.invariant-loop-row
invariant-loop-row l = record {
  count : vec_len l.acts ≡ l.row-index;
  told : option_map (λ more. l.acts.items ++ more) (acts_told l.jobs l.row-index (drop l.row-index l.rows)) ≡ acts_told l.jobs 0 l.rows;
}
