use Rattle.std.proofs.Common.{◌≡◌, ◌∙◌, true, false, ap, arith, length, vec_len}
use Rattle.agv_face.proofs.Serving.{by_either, on_err, stays_or_fits}
use Rattle.agv_face.proofs.reply.answer_request.Goals as goal

-- there was no memory for the answer: so the call only asked
pub returns-in_err-put_answer-clause-unchanged_on_err : goal.returns-in_err-put_answer-clause-unchanged_on_err
returns-in_err-put_answer-clause-unchanged_on_err g c clean still =
    let served = c.in_ok-answer.ensures.serves clean in
    let either = stays_or_fits c.tells_without_change.ensures _ _ c.args.at c.args.request.now c.in_ok-answer.answer c.outcomes_fit.ensures c.requires.short served in
    by_either either (λ same. on_err c.from_residual-in_err-put_answer.result same) (λ capacity.
    let none : vec_len c.args.out.now ≡ 0 = c.args.out.now.ok.0 ∙ ap length c.requires.empty in
    let no : false ≡ true = c.in_err-put_answer.ensures.fits (omega (arith, none, capacity c.args.request.now.close, c.requires.capacity)) in
    absurd (cc))
