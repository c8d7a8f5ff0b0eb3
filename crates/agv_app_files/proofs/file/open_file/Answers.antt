use Rattle.agv_app_files.proofs.file.open_file.Goals as goal

pub returns-clause-opened : goal.returns-clause-opened
returns-clause-opened c = rw c.set_clock.ensures (c.in_ok-conn.ensures.opened)
