use Rattle.std.proofs.Common.{◌≡◌, ◌∙◌, suc, ◌+◌, ◌-◌, ◌++◌, ◌∷◌, [], List, sym, ap, arith}
use Rattle.std.proofs.lemmas.Bool.Decides.{nat_tests}
use Rattle.std.proofs.lemmas.List.{append-nil, append_assoc}
use Rattle.agv_layout.specs.Layout.{Name}
use Rattle.agv_layout.specs.Ways.{followed}
use Rattle.agv_layout.proofs.Followed.{followed-more, followed-none}
use Rattle.agv_layout.proofs.route.follow.Goals.{else-loop-test, then-loop-test+in_default}
use Rattle.agv_layout.proofs.route.follow.Goals as goal

-- nothing follows: the names so far are all
all_so_far : (ids rest whole : List Name) → rest ≡ [] → ids ++ rest ≡ whole → ids ≡ whole
all_so_far ids rest whole none e = sym (append-nil ids) ∙ ap (λ (l : List Name). ids ++ l) (sym none) ∙ e

pub loop-preserved : goal.loop-preserved
loop-preserved c =
    let count : c.args.hops - c.loop.counter ≡ suc (c.args.hops - (c.loop.counter + 1)) = grind (arith, nat_tests, c.loop-test.true) in
    let more = followed-more c.args.ways.now c.loop.at (c.args.hops - c.loop.counter) (c.args.hops - (c.loop.counter + 1)) c.in-Some.edge.now count (sym c.in-Some.ensures.value) in
    let rest = followed c.args.ways.now c.in-Some.edge.now.finish (c.args.hops - (c.loop.counter + 1)) in
    ap (λ (l : List Name). l ++ rest) c.in_ok-push.ensures.items
    ∙ append_assoc c.loop.ids.items (c.in-Some.edge.now.id ∷ []) rest
    ∙ ap (λ (l : List Name). c.loop.ids.items ++ l) (sym more)
    ∙ c.loop.invariant

pub returns : goal.returns
returns c =
    elim c.loop-test.branch [
      | else-loop-test w ↦
          let done : c.args.hops - c.loop.counter ≡ 0 = grind (arith, nat_tests, w.loop-test.false) in
          all_so_far c.loop.ids.items (followed c.args.ways.now c.loop.at (c.args.hops - c.loop.counter)) _ (ap (followed c.args.ways.now c.loop.at) done) c.loop.invariant
      | then-loop-test+in_default w ↦
          all_so_far c.loop.ids.items (followed c.args.ways.now c.loop.at (c.args.hops - c.loop.counter)) _ (followed-none c.args.ways.now c.loop.at (c.args.hops - c.loop.counter) (sym w.in_default.ensures.value)) c.loop.invariant
    ]
