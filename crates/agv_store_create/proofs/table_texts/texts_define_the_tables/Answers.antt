use Rattle.agv_store_create.proofs.TableTexts.{all_defined}
use Rattle.agv_store_create.proofs.table_texts.texts_define_the_tables.Goals as goal

pub returns : goal.returns
returns c = all_defined
