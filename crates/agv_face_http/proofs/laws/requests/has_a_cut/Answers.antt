use Rattle.std.proofs.Common.{◌≡◌, ◌-◌, ◌<◌, [], List, ℕ, true, false, length, ap, ◌∙◌, subst, arith, refl}
use Rattle.std.proofs.Math.ListN.{length-drop}
use Rattle.agv_face_http.specs.declared.request.next.Next.{Next}
use Rattle.agv_face_http.specs.declared.request.next.Next.TheVariants as next
use Rattle.agv_face_http.specs.declared.request.next.RawRequest.{RawRequest}
use Rattle.agv_face_http.specs.request.Next.{IsNext}
use Rattle.agv_face_http.proofs.request.Cuts.{HasCut, cut_on, cut_at_end, cut_at_fault}
use Rattle.agv_face_http.proofs.laws.requests.has_a_cut.Goals as goal

-- what comes next, where no request does
cut_where : (bytes : List ℕ) (what : Next) → IsNext bytes true what → ((lent : RawRequest) → what ≡ next.Request lent → ⊥) → HasCut bytes
cut_where bytes next.Need told none = absurd (let ends : true ≡ false = told.0 in cc)
cut_where bytes next.End told none = cut_at_end bytes told.1
cut_where bytes (next.Fault fault) told none = cut_at_fault bytes fault (told [] (λ _. refl))
cut_where bytes (next.Request lent) told none = absurd (none lent refl)

pub loop-request-init : goal.loop-request-init
loop-request-init c = λ cut. cut

pub loop-request-smaller : goal.loop-request-smaller
loop-request-smaller c =
    let told = c.in-Request.ensures in
    let some : 0 < c.in-Request.request.len = told.0 in
    let size : length c.split_at.result.1.now ≡ length c.loop-request.rest.now - c.in-Request.request.len = ap length c.split_at.ensures.back ∙ length-drop c.in-Request.request.len c.loop-request.rest.now in
    omega (arith, told.1)

pub loop-request-preserved : goal.loop-request-preserved
loop-request-preserved c cut =
    let told = c.in-Request.ensures in
    c.loop-request.invariant (cut_on c.loop-request.rest.now c.in-Request.request.len told.2 told.3 (subst HasCut c.split_at.ensures.back cut))

pub returns : goal.returns
returns c = c.loop-request.invariant (cut_where c.loop-request.rest.now c.next_request.result c.next_request.ensures c.in_default.not-Request)
