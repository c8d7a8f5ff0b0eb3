use Rattle.std.proofs.Common.{◌≡◌, ℕ, List, [], ◌∷◌, ◌++◌, Option, Some, Vec, Global, ap, cond, ◌∙◌}
use Rattle.std.specs.BTreeMap.{is_at}
use Rattle.agv_count.specs.LoadsByPlace.{loads_at}
use Rattle.agv_count.proofs.LoadsByPlaceLemmas.{items_of, items-kept, loads_at-put}
use Rattle.agv_count.proofs.loads_by_place.put.Goals as goal

pub returns : goal.returns
returns g c =
    let cmp = g.K.Ord.cmp in
    let at = c.args.at in
    let fresh : c.unwrap_or-loads.result.items ≡ items_of c.remove.result = ap (λ (v : Vec (List ℕ) Global). v.items) c.unwrap_or-loads.ensures ∙ items-kept c.remove.result c.new.result c.new.ensures.items in
    let kept : c.unwrap_or-loads.result.items ≡ loads_at cmp c.args.placed.now at = fresh ∙ ap items_of c.remove.ensures.value in
    let more : c.push.new.self.items ≡ loads_at cmp c.args.placed.now at ++ c.args.load ∷ [] = c.in_ok-push.ensures.items ∙ ap (λ (l : List (List ℕ)). l ++ c.args.load ∷ []) kept in
    λ q.
    loads_at-put g.met.K.Ord.total c.args.placed.now c.insert.new.self at c.push.new.self c.args.load q more
    (c.in_ok-insert.ensures.updates.0 q ∙ ap (λ (o : Option (Vec (List ℕ) Global)). cond (is_at (cmp at) q) (Some c.push.new.self) o) (c.remove.ensures.updates.0 q))
