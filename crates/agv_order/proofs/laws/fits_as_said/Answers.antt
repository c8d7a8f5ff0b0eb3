use Rattle.agv_order.proofs.Stopping.{fits_as_said}
use Rattle.agv_order.proofs.laws.fits_as_said.Goals as goal

pub returns : goal.returns
returns c = fits_as_said
