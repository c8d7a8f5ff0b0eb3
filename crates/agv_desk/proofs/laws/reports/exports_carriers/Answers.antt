use Rattle.agv_desk.proofs.exports.CarriersTold.{none_told, carrier_told}
use Rattle.agv_desk.proofs.laws.reports.exports_carriers.Goals as goal

pub returns-clause-waiting : goal.returns-clause-waiting
returns-clause-waiting c = none_told

pub returns-clause-riding : goal.returns-clause-riding
returns-clause-riding c = carrier_told
