use Rattle.std.proofs.Common.{List, ◌∷◌, ◌++◌, [], ◌∙◌, ap, cond, Some, Option, Vec, Global}
use Rattle.std.specs.Option.{option_map, unwrap_or}
use Rattle.std.specs.BTreeMap.{is_at}
use Rattle.agv_header.specs.Name.{name_cmp}
use Rattle.agv_layout.specs.Layout.{Name}
use Rattle.agv_layout.proofs.Among.{leads-added, items-kept}
use Rattle.agv_layout.proofs.distances.add_arrival.Goals as goal

pub returns : goal.returns
returns c =
    let kept =
    ap (λ (v : Vec Name Global). v.items) c.unwrap_or-starts.ensures
    ∙ items-kept c.remove.result c.new.result c.new.ensures.items
    ∙ ap (λ (o : Option (Vec Name Global)). unwrap_or (option_map (λ v. v.items) o) []) c.remove.ensures.value in
    λ start finish.
    leads-added c.args.arrivals.now c.insert.new.self c.args.ends.start c.args.ends.finish c.push.new.self start finish
    (c.in_ok-push.ensures.items ∙ ap (λ (l : List Name). l ++ c.args.ends.start ∷ []) kept)
    (c.in_ok-insert.ensures.updates.0 finish ∙ ap (λ (o : Option (Vec Name Global)). cond (is_at (name_cmp c.args.ends.finish) finish) (Some c.push.new.self) o) (c.remove.ensures.updates.0 finish))
