use Rattle.agv_desk.proofs.outcomes.SentDrives.{sends_drive}
use Rattle.agv_desk.proofs.laws.drives.sends_the_drive.Goals as goal

pub returns : goal.returns
returns c seats world at order key to edges laid =
    sends_drive c.drives_go_by_the_route.ensures.goes c.gives_itself.ensures world laid (record { at = at; order = order; key = key; to = to; edges = edges })
