use Rattle.std.proofs.Common.{◌≡◌, ◌<◌, length, inl, arith}
use Rattle.agv_face_http.proofs.request.Heads.{too_many_lines, no_end_in_front, cut_head, some_left, none_left, no_bytes, open_head}
use Rattle.agv_face_http.proofs.request.next.next_request.Goals as goal

pub returns-in-Ok-Partial : goal.returns-in-Ok-Partial
returns-in-Ok-Partial c more follows =
    let none = rw c.in-Ok-Partial.field-0-is at c.in-Ok-Partial.ensures.partial in
    cut_head c.args.buf.now c.front_of-front.result.now more c.front_of-front.ensures.front (some_left _ _ c.is_empty.ensures c.if-is_empty.false) none (follows c.if-ended-2.true)

pub returns-in-Ok-Partial-2 : goal.returns-in-Ok-Partial-2
returns-in-Ok-Partial-2 c more follows =
    let none = rw c.in-Ok-Partial.field-0-is at c.in-Ok-Partial.ensures.partial in
    no_end_in_front c.args.buf.now c.front_of-front.result.now more c.front_of-front.ensures.front c.if-buf-ge-MAX_HEAD_BYTES.true none

pub returns-in-Err : goal.returns-in-Err
returns-in-Err c more follows =
    too_many_lines c.args.buf.now c.front_of-front.result.now more c.front_of-front.ensures.front (some_left _ _ c.is_empty.ensures c.if-is_empty.false) c.in-Err.ensures.no_room

pub returns-else-ended : goal.returns-else-ended
returns-else-ended c =
    let none : length c.args.buf.now ≡ 0 = none_left _ _ c.is_empty.ensures c.if-is_empty.true in
    (c.if-ended.false, omega arith, inl (no_bytes c.args.buf.now none))

pub returns-in-Ok-Partial-3 : goal.returns-in-Ok-Partial-3
returns-in-Ok-Partial-3 c =
    let none = rw c.in-Ok-Partial.field-0-is at c.in-Ok-Partial.ensures.partial in
    let partial = rw c.in-Ok-Partial.field-0-is at c.in-Ok-Partial.ensures.unfinished in
    let short : length c.args.buf.now < 8192 = c.if-buf-ge-MAX_HEAD_BYTES.false in
    (c.if-ended-2.false, omega arith, open_head c.args.buf.now c.front_of-front.result.now c.front_of-front.ensures.front short none partial)
