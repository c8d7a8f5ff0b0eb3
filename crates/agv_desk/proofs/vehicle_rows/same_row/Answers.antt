use Rattle.agv_desk.proofs.vehicle_rows.same_row.Goals as goal

pub returns : goal.returns
returns c = c.eq.ensures
