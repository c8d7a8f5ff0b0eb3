use Rattle.agv_world_core.specs.Maps.{maps_of}
use Rattle.agv_store_schema.specs.SchemaNumbers.{desk_seats}
use Rattle.agv_store_rows.proofs.ListsHeld.{one_rows_held}
use Rattle.agv_store_rows.proofs.row_list_laws.a_database_tells_one_world.Goals as goal

pub returns : goal.returns
returns c = λ desk again db world other is too lawful too_lawful h g.
    c.maps_tell_the_world.ensures world other (c.has_consistent_trips.ensures desk_seats world lawful) (c.has_consistent_trips.ensures desk_seats other too_lawful)
    (one_rows_held c.lists_tell_one_world.ensures desk again db (maps_of world) (maps_of other) is too (c.lawful_acts_are_of_jobs.ensures world lawful) (c.lawful_acts_are_of_jobs.ensures other too_lawful) h g)
