use Rattle.std.proofs.Common.{◌≡◌, ◌≤◌, ◌<◌, ◌+◌, ◌-◌, length, take, drop, sym, ap, ap₂, ◌∙◌, arith, refl, Ok}
use Rattle.std.proofs.Math.ListN.{length-drop}
use Rattle.std.proofs.lemmas.List.{length-take}
use Rattle.agv_face_http.specs.request.Requests.{request_of, is_last_head}
use Rattle.agv_face_http.proofs.request.Heads.{whole, same_length, refused, cut_body, open_body, some_bytes, len_fits}
use Rattle.agv_face_http.proofs.request.next.with_head.Goals as goal

pub split_at-requires : goal.split_at-requires
split_at-requires c = (len_fits c.args.buf.now c.args.front.now c.args.head.len c.requires.front c.requires.within.section.len_fits).0

pub returns-in-Err : goal.returns-in-Err
returns-in-Err c more follows =
    let head = c.requires.reads.0 in
    let at = c.requires.reads.1 in
    let fits = c.requires.within.section.len_fits in
    let same = same_length c.args.buf.now c.args.front.now c.args.headers.now c.args.head head c.requires.front c.requires.few_headers fits at c.of-method.result.now c.of-method.ensures in
    refused c.args.buf.now c.args.front.now c.args.headers.now c.args.head head c.requires.front c.requires.few_headers fits at more c.in-Err.refusal
    (sym same ∙ sym c.needed_by.ensures.needed ∙ c.in-Err.is)

pub returns-in-Ok : goal.returns-in-Ok
returns-in-Ok c =
    let head = c.requires.reads.0 in
    let at = c.requires.reads.1 in
    let front = c.requires.front in
    let fits = c.requires.within.section.len_fits in
    let same = same_length c.args.buf.now c.args.front.now c.args.headers.now c.args.head head front c.requires.few_headers fits at c.of-method.result.now c.of-method.ensures in
    let some : 0 < c.args.head.len = some_bytes c.args.buf.now c.args.front.now c.args.headers.now c.args.head head front c.requires.few_headers fits at in
    let rest : c.split_at.result.1.now ≡ drop c.args.head.len c.args.buf.now = c.split_at.ensures.back in
    let enough : c.in-Ok.n ≤ length (drop c.args.head.len c.args.buf.now) = omega (arith, c.if-n-rest.true, ap length rest) in
    let size : length (take c.in-Ok.n (drop c.args.head.len c.args.buf.now)) ≡ c.in-Ok.n = omega (arith, length-take c.in-Ok.n (drop c.args.head.len c.args.buf.now)) in
    let within : c.args.head.len ≤ length c.args.buf.now = (len_fits c.args.buf.now c.args.front.now c.args.head.len front fits).0 in
    let all : c.args.head.len + c.in-Ok.n ≤ length c.args.buf.now = omega (arith, length-drop c.args.head.len c.args.buf.now) in
    let body = take c.in-Ok.n (drop c.args.head.len c.args.buf.now) in (
      omega arith,
      all,
      request_of head body,
      (
        head,
        body,
        whole c.args.buf.now c.args.front.now c.args.headers.now c.args.head head front c.requires.few_headers fits at c.in-Ok.n,
        sym same ∙ sym c.needed_by.ensures.needed ∙ c.in-Ok.is ∙ ap Ok (sym size),
        refl,
      ),
      record {
        method = c.of-method.ensures ∙ at.method;
        target = c.of.ensures ∙ at.path;
        body = ap (take c.in-Ok.n) rest;
        close = c.is_last.ensures ∙ ap₂ is_last_head at.version at.fields;
      },
    )

pub returns-in-Ok-2 : goal.returns-in-Ok-2
returns-in-Ok-2 c more follows =
    let head = c.requires.reads.0 in
    let at = c.requires.reads.1 in
    let fits = c.requires.within.section.len_fits in
    let same = same_length c.args.buf.now c.args.front.now c.args.headers.now c.args.head head c.requires.front c.requires.few_headers fits at c.of-method.result.now c.of-method.ensures in
    let short : length (drop c.args.head.len c.args.buf.now) < c.in-Ok.n = omega (arith, c.if-n-rest.false, ap length c.split_at.ensures.back) in
    cut_body c.args.buf.now c.args.front.now c.args.headers.now c.args.head head c.requires.front c.requires.few_headers fits at more c.in-Ok.n
    (sym same ∙ sym c.needed_by.ensures.needed ∙ c.in-Ok.is) (follows c.if-ended.true) short

pub returns-in-Ok-3 : goal.returns-in-Ok-3
returns-in-Ok-3 c =
    let head = c.requires.reads.0 in
    let at = c.requires.reads.1 in
    let within = c.requires.within.section.len_fits in
    let fits = len_fits c.args.buf.now c.args.front.now c.args.head.len c.requires.front within in
    let few : c.args.head.len ≤ 8192 = fits.1 in
    let most : c.in-Ok.n ≤ 65536 = c.in-Ok.ensures.fits in
    let rest : length c.split_at.result.1.now < c.in-Ok.n = c.if-n-rest.false in
    let size : length c.split_at.result.1.now ≡ length c.args.buf.now - c.args.head.len = ap length c.split_at.ensures.back ∙ length-drop c.args.head.len c.args.buf.now in
    let same = same_length c.args.buf.now c.args.front.now c.args.headers.now c.args.head head c.requires.front c.requires.few_headers within at c.of-method.result.now c.of-method.ensures in
    let short : length (drop c.args.head.len c.args.buf.now) < c.in-Ok.n = omega (arith, c.if-n-rest.false, ap length c.split_at.ensures.back) in
    let lacking = open_body c.args.buf.now c.args.front.now c.args.headers.now c.args.head head c.requires.front c.requires.few_headers within at c.in-Ok.n
    (sym same ∙ sym c.needed_by.ensures.needed ∙ c.in-Ok.is) short in
    (c.if-ended.false, omega arith, lacking)
