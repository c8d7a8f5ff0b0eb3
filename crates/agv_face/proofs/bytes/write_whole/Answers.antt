use Rattle.std.proofs.Common.{◌≡◌, ◌-◌, ◌<◌, ℕ, List, take, drop, length, ap, sym, ◌∙◌, inl, subst, arith}
use Rattle.std.proofs.lemmas.List.{take_rest, take_all}
use Rattle.std.proofs.Math.ListN.{length-drop}
use Rattle.std.proofs.Math.Seq.{take-add}
use Rattle.std.proofs.KnownBytes.{Appends-trans}
use Rattle.std.specs.Io.KnownBytes.{Appends}
use Rattle.agv_face.proofs.Writing.{cut_at, keeps-nil, failed_then}
use Rattle.agv_face.proofs.bytes.write_whole.Goals as goal

pub loop-done-preserved : goal.loop-done-preserved
loop-done-preserved g c =
    let all = c.args.bytes.now in
    let done = c.loop-done.done in
    let rest = take_rest all done in
    let size : length (drop done all) ≡ length all - done = length-drop done all in
    let same = ap length rest in
    let Wrote : List ℕ → Type 0 = λ l. Appends (g.W.Write.contents c.loop-done.writer.inner) (g.W.Write.contents c.write.new.self.inner) (take c.in-Ok.n l) in
    let Written : List ℕ → Type 0 = λ l. Appends (g.W.Write.contents c.args.writer.now.inner) (g.W.Write.contents c.write.new.self.inner) l in (
      omega (arith, c.in-Ok.ensures.bound, same, size),
      subst Written (sym (take-add done c.in-Ok.n all)) (Appends-trans _ _ _ _ _ c.loop-done.invariant.1 (subst Wrote rest c.in-Ok.ensures.bytes)),
      c.in-Ok.ensures.took (inl (omega arith)) ∙ c.loop-done.invariant.2,
    )

-- the write took no byte
pub returns-in-Ok-eq0 : goal.returns-in-Ok-eq0
returns-in-Ok-eq0 g c =
    let now = c.loop-done.invariant in
    let all = c.args.bytes.now in
    let done = c.loop-done.done in
    let left : List ℕ = take (length all - done) (drop done all) in
    let size : length left ≡ length all - done = ap length (take_rest all done) ∙ length-drop done all in
    let some : 0 < length left = omega (arith, c.loop-done-test.true) in
    let Took : ℕ → Type 0 = λ n. Appends (g.W.Write.contents c.loop-done.writer.inner) (g.W.Write.contents c.write.new.self.inner) (take n left) in
    let none = subst Took c.in-Ok-eq0.field-0-test c.in-Ok-eq0.ensures.bytes in (
      cut_at _ _ _ all done now.1 (keeps-nil _ _ none) c.loop-done-test.true,
      failed_then c.args.writer.now c.loop-done.writer c.write.new.self now.2 (c.in-Ok-eq0.ensures.took_none c.in-Ok-eq0.field-0-test some),
    )

-- the writer failed
pub returns-in-Err : goal.returns-in-Err
returns-in-Err g c =
    let now = c.loop-done.invariant in
    (cut_at _ _ _ c.args.bytes.now c.loop-done.done now.1 c.in-Err.ensures.bytes c.loop-done-test.true, failed_then c.args.writer.now c.loop-done.writer c.write.new.self now.2 c.in-Err.ensures.failed)

-- all is written
pub returns : goal.returns
returns g c =
    let now = c.loop-done.invariant in
    let Written : List ℕ → Type 0 = λ l. Appends (g.W.Write.contents c.args.writer.now.inner) (g.W.Write.contents c.loop-done.writer.inner) l in
    (subst Written (take_all c.loop-done.done c.args.bytes.now c.loop-done-test.false) now.1, now.2)
