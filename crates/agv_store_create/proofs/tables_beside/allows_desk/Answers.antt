use Rattle.std.proofs.Common.{◌≡◌, ◌≢◌, true, false, sym, subst}
use Rattle.sqlite_trees.specs.Tree.{IsAscending}
use Rattle.sqlite_schema.specs.declared.schema.Table.{Table}
use Rattle.agv_store_create.proofs.TablesBeside.{are_unreferred, told_allows, allows_unreferred}
use Rattle.agv_store_create.proofs.tables_beside.allows_desk.Goals as goal

pub returns-then-are_unreferred : goal.returns-then-are_unreferred
returns-then-are_unreferred c =
    let s = c.args.schema.now in
    let same : c.as_slice-tables.result.now ≡ s.tables = c.as_slice-tables.ensures in
    let told : c.are_unreferred.result ≡ are_unreferred c.as_slice-tables.result.now = c.are_unreferred.ensures in
    let all : are_unreferred s.tables ≡ true = cc in
    let here = c.are_apart.ensures in (
      (λ yes. told_allows s all (subst (IsAscending (λ (t u : Table). t.tree ≢ u.tree)) same (here.0 yes))),
      (λ allows. here.1 (subst (IsAscending (λ (t u : Table). t.tree ≢ u.tree)) (sym same) allows.apart)),
    )

pub returns-else-are_unreferred : goal.returns-else-are_unreferred
returns-else-are_unreferred c =
    let s = c.args.schema.now in
    let same : c.as_slice-tables.result.now ≡ s.tables = c.as_slice-tables.ensures in
    let told : c.are_unreferred.result ≡ are_unreferred c.as_slice-tables.result.now = c.are_unreferred.ensures in
    let none : are_unreferred s.tables ≡ false = cc in (
      (λ yes. absurd (cc)),
      (λ allows. let all = allows_unreferred s allows in absurd (cc)),
    )
