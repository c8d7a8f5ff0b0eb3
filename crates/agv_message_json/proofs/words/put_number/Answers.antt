use Rattle.std.proofs.Common.{arith}
use Rattle.agv_message_json.proofs.Readings.{whole-readable}
use Rattle.agv_message_json.proofs.words.put_number.Goals as goal

pub returns-clause-readable : goal.returns-clause-readable
returns-clause-readable c = whole-readable c.args.n (omega (arith, c.ranges.n.fits))
