use Rattle.std.proofs.Common.{rules, ◌≡◌, ◌∙◌, ◌^◌, false, ℕ, nat_le, slice_get, Some, refl, sym, ap, subst, arith}
use Rattle.std.proofs.lemmas.Option.{same_Some}
use Rattle.sqlite_schema.specs.Names.{table_named}
use Rattle.sqlite_schema.specs.declared.schema.Table.{Table}
use Rattle.agv_store_schema.specs.DeskRows.{SameKeys, TableKeys, keys_of, with_keys}
use Rattle.agv_store_create.specs.StandingTables.{IsAlike}
use Rattle.agv_store_create.proofs.standing_tables.stands_alike.Goals as goal

-- a table with the keys of another, however written, is alike
alike_by : (found wanted : Table) (tree : ℕ) (keys : TableKeys) → found ≡ with_keys keys (record wanted { tree = tree }) → SameKeys keys.indexed wanted.uniques → IsAlike found wanted
alike_by found wanted tree keys same same_keys = subst (λ (t : Table). IsAlike t wanted) (sym same) (refl, same_keys)

pub returns-then-found-lt-MAX_TREES : goal.returns-then-found-lt-MAX_TREES
returns-then-found-lt-MAX_TREES c plain =
    let schema = c.args.schema.now in
    let wanted = c.args.wanted.now in
    let found = c.in-Some-get.found.now in
    let named : table_named schema wanted.name ≡ Some c.in-Some.at = search rules in
    let there : slice_get schema.tables c.in-Some.at ≡ Some found = search rules in
    let low : nat_le (2 ^ 31) found.tree ≡ false = search (rules, arith) in (
      (λ yes.
          let alike = (c.same_table.ensures plain).0 yes in
          record { at = c.in-Some.at; tree = found.tree; keys = keys_of found; named = named; there = there ∙ ap Some alike.0; same_keys = alike.1; low = low }),
      (λ stands.
          let at = same_Some c.in-Some.at stands.at (sym named ∙ stands.named) in
          let same = same_Some found (with_keys stands.keys (record wanted { tree = stands.tree })) (sym there ∙ ap (slice_get schema.tables) at ∙ stands.there) in
          (c.same_table.ensures plain).1 (alike_by found wanted stands.tree stands.keys same stands.same_keys)),
    )
