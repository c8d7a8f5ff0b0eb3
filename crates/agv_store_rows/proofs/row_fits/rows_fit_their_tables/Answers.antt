use Rattle.std.proofs.Common.{refl}
use Rattle.agv_store_rows.proofs.FittingRows.{vehicle_fits, journey_fits, load_fits, hold_fits}
use Rattle.agv_store_rows.proofs.row_fits.rows_fit_their_tables.Goals as goal

pub returns-clause-meta : goal.returns-clause-meta
returns-clause-meta c = λ id schema. refl

pub returns-clause-node : goal.returns-clause-node
returns-clause-node c = λ id. refl

pub returns-clause-edge : goal.returns-clause-edge
returns-clause-edge c = λ id ends. refl

pub returns-clause-station : goal.returns-clause-station
returns-clause-station c = λ id site. refl

pub returns-clause-vehicle : goal.returns-clause-vehicle
returns-clause-vehicle c = vehicle_fits

pub returns-clause-capacity : goal.returns-clause-capacity
returns-clause-capacity c = λ key own. refl

pub returns-clause-journey : goal.returns-clause-journey
returns-clause-journey c = journey_fits

pub returns-clause-act : goal.returns-clause-act
returns-clause-act c = λ key row. refl

pub returns-clause-leg : goal.returns-clause-leg
returns-clause-leg c = λ key edge. refl

pub returns-clause-load : goal.returns-clause-load
returns-clause-load c = load_fits

pub returns-clause-job : goal.returns-clause-job
returns-clause-job c = λ id job. refl

pub returns-clause-hold : goal.returns-clause-hold
returns-clause-hold c = hold_fits

pub returns-clause-used : goal.returns-clause-used
returns-clause-used c = λ key. refl
