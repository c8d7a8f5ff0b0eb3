use Rattle.std.proofs.Common.{◌≡◌, subst, sym}
use Rattle.sqlite.specs.Effect.{Database}
use Rattle.agv_store.specs.Serving.{FoundIn}
use Rattle.agv_store.proofs.laws.trees_tell_worlds.Goals as goal

pub returns : goal.returns
returns c found other world listed also trees_are has =
    let schema = c.trees_tell_schemas.ensures.schema found other listed also trees_are in
    let same : other ≡ found = λ i. record { schema = schema i; trees = trees_are i } in
    let So : Database → Type 0 = λ db. FoundIn db world in
    subst So (sym same) has
