use Rattle.agv_desk.proofs.exports.JobTold.{told_riding, told_without, told_as_exported}
use Rattle.agv_desk.proofs.laws.jobs.tells_carriers.Goals as goal

pub returns-clause-riding : goal.returns-clause-riding
returns-clause-riding c seats world at job row lawful here rides = told_riding c.gives_the_carrier.ensures seats world job row lawful here rides

pub returns-clause-none : goal.returns-clause-none
returns-clause-none c seats world at job row here rests = told_without world job row here rests

pub returns-clause-exported : goal.returns-clause-exported
returns-clause-exported c seats world at job row lawful here lives = told_as_exported c.gives_the_carrier.ensures seats world job row lawful here lives
