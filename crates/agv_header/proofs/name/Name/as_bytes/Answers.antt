use Rattle.agv_header.proofs.name.Name.as_bytes.Goals as goal

pub returns-clause-bytes : goal.returns-clause-bytes
returns-clause-bytes c = c.self.view_is
