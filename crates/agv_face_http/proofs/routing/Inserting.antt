-- What an insert leaves: the line in its place, unless memory was wanting.
use Rattle.std.proofs.Common.{◌≡◌, true, List, [], ◌∷◌, OnOk, Option, Some, None, Result, Ok, Err, is_none, refl}
use Rattle.std.proofs.lemmas.Bool.{and_parts}
use Rattle.matchit.specs.Route.{Scan, parse_route}
use Rattle.matchit.specs.Router.{InsertsRead, RouteOf, nearest}
use Rattle.matchit.specs.declared.error.InsertError.{InsertError}
use Rattle.matchit.specs.declared.error.InsertError.TheVariants.{Conflict, InvalidCatchAll, InvalidParam, InvalidParamSegment, OutOfMemory}
use Rattle.matchit.proofs.OnLiterals.{matchit_on_literals}
use Rattle.agv_face_http.specs.declared.routing.line.Line.{Line}
use Rattle.agv_face_http.specs.routing.RouterRows.{RouterRows, are_apart, inserted, is_apart, is_apart_from, with_scan}
use Rattle.agv_face_http.specs.routing.Table.{Entry, entries}

scanned : (x : Result Scan InsertError) (line : Line) (old new : RouterRows) (r : Result (Unit {0}) InsertError) → InsertsRead x line old new r → OnOk r (new ≡ with_scan x line old)
scanned (Ok s) line old new (Ok u) h = h.1
scanned (Ok s) line old new (Err e) h = tt
scanned (Err f) line old new (Ok u) h = h.0
scanned (Err f) line old new (Err e) h = tt

pub puts-in : (e : Entry) (old new : RouterRows) (r : Result (Unit {0}) InsertError) → InsertsRead (parse_route e.0) e.1 old new r → OnOk r (new ≡ inserted e old)
unfolding inserted
puts-in e old new r h = scanned (parse_route e.0) e.1 old new r h

-- ---- no insert meets a conflict

some_near : (n : RouteOf Line) (near : Option (RouteOf Line)) → near ≡ Some n → is_none near ≡ true → ⊥
some_near n None is none = absurd (cc)
some_near n (Some m) is none = absurd (cc)

wants_memory : (x : Result Scan InsertError) (line : Line) (old new : RouterRows) (error : InsertError) → is_apart_from old x ≡ true → InsertsRead x line old new (Err error) → error ≡ OutOfMemory
wants_memory (Ok s) line old new (Conflict with) apart h = absurd (some_near h.1.0 (nearest s.pattern old) h.1.1 apart)
wants_memory (Ok s) line old new InvalidParamSegment apart h = absurd h.1
wants_memory (Ok s) line old new InvalidParam apart h = absurd h.1
wants_memory (Ok s) line old new InvalidCatchAll apart h = absurd h.1
wants_memory (Ok s) line old new OutOfMemory apart h = refl
wants_memory (Err e) line old new error apart h = absurd (cc)

-- an insert that fails wants memory
pub lacks_memory : (e : Entry) (old new : RouterRows) (error : InsertError) → is_apart e old ≡ true → InsertsRead (parse_route e.0) e.1 old new (Err error) → error ≡ OutOfMemory
unfolding is_apart
lacks_memory e old new error apart h = wants_memory (parse_route e.0) e.1 old new error apart h

-- the first line is apart, and so are the others behind it
pub first_apart : (e : Entry) (rest : List Entry) (rows : RouterRows) → are_apart (e ∷ rest) rows ≡ true → (is_apart e rows ≡ true) × (are_apart rest (inserted e rows) ≡ true)
first_apart e rest rows apart = and_parts (is_apart e rows) (are_apart rest (inserted e rows)) apart

-- the lines of the table are
pub all_apart : are_apart entries [] ≡ true
unfolding matchit_on_literals is_apart inserted
all_apart = refl
