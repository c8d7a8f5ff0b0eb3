-- What the texts of the desk's tables have, and the room that an empty database has for the tables.
use Rattle.std.proofs.Common.{List, [], ◌∷◌, refl}
use Rattle.std.specs.List.{AllZip}
use Rattle.sqlite_value.specs.Order.{value_cmp}
use Rattle.sqlite_trees.specs.Sound.{begins, fits_kind, is_free_name, same_name as trees_name}
use Rattle.sqlite_schema.specs.declared.schema.Schema.{Schema}
use Rattle.sqlite_schema.specs.declared.schema.Table.{Table}
use Rattle.sqlite_tied.specs.Compute.{everything}
use Rattle.agv_store_schema.specs.Schema.{desk_tables}
use Rattle.agv_store_create.specs.DeskSchema.{with_new_table}
use Rattle.agv_store_create.specs.SchemaTexts.{table_texts}
use Rattle.agv_store_create.proofs.TablesFit.{HasRoom}
use Rattle.agv_store_create.proofs.TextsFit.{StoresTable}

pub each_stored : AllZip StoresTable table_texts desk_tables
unfolding everything begins fits_kind is_free_name trees_name value_cmp lib.Ieee.is_nan lib.Ieee.lt
each_stored = (
  record { alone = refl; ascii = refl; named = refl; own = refl; reals = refl; keys = refl; formed = refl; fit = refl; short = refl },
  (
    record { alone = refl; ascii = refl; named = refl; own = refl; reals = refl; keys = refl; formed = refl; fit = refl; short = refl },
    (
      record { alone = refl; ascii = refl; named = refl; own = refl; reals = refl; keys = refl; formed = refl; fit = refl; short = refl },
      (
        record { alone = refl; ascii = refl; named = refl; own = refl; reals = refl; keys = refl; formed = refl; fit = refl; short = refl },
        (
          record { alone = refl; ascii = refl; named = refl; own = refl; reals = refl; keys = refl; formed = refl; fit = refl; short = refl },
          (
            record { alone = refl; ascii = refl; named = refl; own = refl; reals = refl; keys = refl; formed = refl; fit = refl; short = refl },
            (
              record { alone = refl; ascii = refl; named = refl; own = refl; reals = refl; keys = refl; formed = refl; fit = refl; short = refl },
              (
                record { alone = refl; ascii = refl; named = refl; own = refl; reals = refl; keys = refl; formed = refl; fit = refl; short = refl },
                (
                  record { alone = refl; ascii = refl; named = refl; own = refl; reals = refl; keys = refl; formed = refl; fit = refl; short = refl },
                  (
                    record { alone = refl; ascii = refl; named = refl; own = refl; reals = refl; keys = refl; formed = refl; fit = refl; short = refl },
                    (
                      record { alone = refl; ascii = refl; named = refl; own = refl; reals = refl; keys = refl; formed = refl; fit = refl; short = refl },
                      (
                        record { alone = refl; ascii = refl; named = refl; own = refl; reals = refl; keys = refl; formed = refl; fit = refl; short = refl },
                        (
                          record { alone = refl; ascii = refl; named = refl; own = refl; reals = refl; keys = refl; formed = refl; fit = refl; short = refl },
                          (
                            record { alone = refl; ascii = refl; named = refl; own = refl; reals = refl; keys = refl; formed = refl; fit = refl; short = refl },
                            tt,
                          ),
                        ),
                      ),
                    ),
                  ),
                ),
              ),
            ),
          ),
        ),
      ),
    ),
  ),
)

-- there is room for each of the tables, after those before it
abbrev pub HaveRoom : Schema → List Table → Type 0
HaveRoom s [] = Unit {0}
HaveRoom s (t ∷ tables) = HasRoom s t × HaveRoom (with_new_table s t) tables

abbrev pub empty_schema : Schema
empty_schema = record { tables = []; indexes = []; views = [] }

pub empty_has_room : HaveRoom empty_schema desk_tables
unfolding everything
empty_has_room = (
  record { free = refl; own = refl; room = refl; uncounted = refl },
  (
    record { free = refl; own = refl; room = refl; uncounted = refl },
    (
      record { free = refl; own = refl; room = refl; uncounted = refl },
      (
        record { free = refl; own = refl; room = refl; uncounted = refl },
        (
          record { free = refl; own = refl; room = refl; uncounted = refl },
          (
            record { free = refl; own = refl; room = refl; uncounted = refl },
            (
              record { free = refl; own = refl; room = refl; uncounted = refl },
              (
                record { free = refl; own = refl; room = refl; uncounted = refl },
                (
                  record { free = refl; own = refl; room = refl; uncounted = refl },
                  (
                    record { free = refl; own = refl; room = refl; uncounted = refl },
                    (
                      record { free = refl; own = refl; room = refl; uncounted = refl },
                      (
                        record { free = refl; own = refl; room = refl; uncounted = refl },
                        (
                          record { free = refl; own = refl; room = refl; uncounted = refl },
                          (
                            record { free = refl; own = refl; room = refl; uncounted = refl },
                            tt,
                          ),
                        ),
                      ),
                    ),
                  ),
                ),
              ),
            ),
          ),
        ),
      ),
    ),
  ),
)
