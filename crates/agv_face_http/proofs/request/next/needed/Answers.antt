use Rattle.std.proofs.Common.{◌≡◌, sym, ap, ◌∙◌, refl}
use Rattle.agv_face_http.specs.request.Lines.{Length, absent, given, wrong}
use Rattle.agv_face_http.specs.request.Requests.{length_needed}
use Rattle.agv_face_http.specs.request.Found.{found_length}
use Rattle.agv_face_http.specs.declared.request.lines.FoundLength.TheVariants.{Absent}
use Rattle.agv_face_http.proofs.request.next.needed.Goals as goal

-- no length is found where none is given
none_given : (length : Length) → Absent ≡ found_length length → absent ≡ length
none_given absent is = refl
none_given (given n) is = absurd (cc)
none_given wrong is = absurd (cc)

pub returns-in-Absent-clause-needed : goal.returns-in-Absent-clause-needed
returns-in-Absent-clause-needed c length is = c.needed_without_length.ensures.needed ∙ ap (length_needed c.args.is_coded c.args.method.now) (none_given length (sym c.in-Absent.is ∙ is))
