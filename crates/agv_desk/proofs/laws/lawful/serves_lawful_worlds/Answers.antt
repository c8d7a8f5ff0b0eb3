use Rattle.agv_desk.proofs.lawful_worlds.LawfulServed.{is_served}
use Rattle.agv_desk.proofs.lawful_worlds.LawfulVehiclesWritten.{is_in_order}
use Rattle.agv_desk.proofs.laws.lawful.serves_lawful_worlds.Goals as goal

pub returns-clause-order : goal.returns-clause-order
returns-clause-order c = λ seats world lawful. is_in_order seats world lawful

pub returns-clause-served : goal.returns-clause-served
returns-clause-served c = λ seats world call lawful. is_served seats world lawful call
