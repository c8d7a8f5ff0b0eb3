use Rattle.std.proofs.Common.{rules}
use Rattle.agv_header.proofs.topic.topic_named.Goals as goal

pub returns-in-state-clause-reads : goal.returns-in-state-clause-reads
returns-in-state-clause-reads c = search rules

pub returns-in-state-clause-all : goal.returns-in-state-clause-all
returns-in-state-clause-all c = search rules
