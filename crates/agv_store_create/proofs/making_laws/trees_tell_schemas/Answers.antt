use Rattle.agv_store_create.proofs.SchemasTold.{trees_tell_names, trees_tell_schemas}
use Rattle.agv_store_create.proofs.making_laws.trees_tell_schemas.Goals as goal

pub returns-clause-schema : goal.returns-clause-schema
returns-clause-schema c = trees_tell_schemas

pub returns-clause-names : goal.returns-clause-names
returns-clause-names c = trees_tell_names
