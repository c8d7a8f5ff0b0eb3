use Rattle.agv_header.specs.Name.{is_name}
use Rattle.agv_header.proofs.Names.{read_as_name}
use Rattle.agv_header.proofs.name.Name.read.Goals as goal

pub returns-clause-kept : goal.returns-clause-kept
returns-clause-kept c = rw (c.ok_or.ensures.value, c.of_bytes.ensures, c.as_bytes.ensures.value) (read_as_name c.args.text.now _ (is_name c.args.text.now)).0

pub returns-clause-exact : goal.returns-clause-exact
returns-clause-exact c = rw (c.ok_or.ensures.value, c.of_bytes.ensures, c.as_bytes.ensures.value) (read_as_name c.args.text.now _ (is_name c.args.text.now)).1
