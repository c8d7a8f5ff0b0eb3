use Rattle.agv_count.proofs.ExportLemmas.{as_csv_writes}
use Rattle.agv_count.proofs.laws.exports_records.Goals as goal

pub returns : goal.returns
returns c = as_csv_writes
