use Rattle.agv_count.proofs.table.add_row.Goals as goal

-- an error says nothing of the rows
pub returns-in-None-clause-ok : goal.returns-in-None-clause-ok
returns-in-None-clause-ok g c = tt
