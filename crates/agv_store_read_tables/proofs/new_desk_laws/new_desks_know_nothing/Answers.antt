use Rattle.std.proofs.Common.{sym, subst}
use Rattle.agv_store_schema.specs.DeskRows.{Holds}
use Rattle.agv_store_schema.specs.SchemaNumbers.{desk_seats}
use Rattle.agv_store_read_tables.proofs.NewDesks.{first_are_empty}
use Rattle.agv_store_read_tables.proofs.new_desk_laws.new_desks_know_nothing.Goals as goal

pub returns-clause-rows : goal.returns-clause-rows
returns-clause-rows c = first_are_empty c.rows_have_keys.ensures.journeys_listed c.rows_have_keys.ensures.acts_listed

pub returns-clause-world : goal.returns-clause-world
returns-clause-world c db new = (
  new.0,
  record {
    stands = new.1;
    lawful = c.begins_lawful.ensures desk_seats;
    rows = subst (λ lists. Holds new.0 db lists) (sym (returns-clause-rows c)) new.2;
  },
)
