use Rattle.std.proofs.Common.{◌≡◌}
use Rattle.agv_world_core.specs.Lawful.{IsLawful}
use Rattle.agv_desk.specs.Reports.{report_text}
use Rattle.agv_store_schema.specs.SchemaNumbers.{desk_seats}
use Rattle.agv_store_floor.proofs.Asked.{err_of}
use Rattle.agv_store.proofs.Deciding.{ends_faulted}
use Rattle.agv_store_floor.proofs.InTurn.{asked_between}
use Rattle.agv_store.proofs.reports.reported.Goals as goal

pub returns-in_err-bytes-clause-ends : goal.returns-in_err-bytes-clause-ends
returns-in_err-bytes-clause-ends g c =
    ends_faulted g.S.Store c.settle.new.self c.bytes_of.new.floor c.in_ok-settle.ensures.ends c.in_err-bytes.field-0.0 c.in_err-bytes.ensures
    c.from_residual-in_err-bytes.result (err_of c.from_residual-in_err-bytes.result c.in_err-bytes.field-0.0 c.from_residual-in_err-bytes.ensures.1)

pub returns-clause-tells : goal.returns-clause-tells
returns-clause-tells g c =
    asked_between (λ world. IsLawful desk_seats world → c.in_ok-bytes.bytes.items ≡ report_text world c.args.report) c.in_ok-settle.ensures.asks c.in_ok-bytes.ensures c.in_ok-settle-2.ensures.asks
