-- What comes of what is read, or of the fault that reading it met.
use Rattle.std.proofs.Common.{◌≡◌, Result, Ok, Err, IfErr, ap, subst, sym}
use Rattle.std.specs.Result.{IsErrAnd}
use Rattle.agv_header.specs.declared.refusal.Refusal.{Refusal}
use Rattle.agv_message_json.specs.Body.{IsFaultOf}
use Rattle.agv_message_json.specs.declared.body.BodyFault.{BodyFault}
use Rattle.agv_message_json.specs.declared.body.BodyFault.TheVariants as fault
use Rattle.agv_face_http.specs.bodies.StateBody.{unless_refused}

-- what is read is gone on with
pub read_on : {A B : Type 0} (next : A → Result B Refusal) (said : Result A Refusal) (read : A) → said ≡ Ok read → unless_refused next said ≡ next read
read_on next said read is = ap (unless_refused next) is

-- a fault of what is read is one of all that would come of it
pub refused_on : {A B : Type 0} (next : A → Result B Refusal) (said : Result A Refusal) (why : BodyFault) → IsFaultOf why said → IsFaultOf why (unless_refused next said)
refused_on next said (fault.Refused r) is = ap (unless_refused next) is
refused_on next said fault.Memory is = is

-- a fault that is passed on as it was
pub passed_on : {A B : Type 0} (result : Result A BodyFault) (why : BodyFault) (said : Result B Refusal) → IsErrAnd result (λ made. made ≡ why) → IsFaultOf why said → IfErr result (λ made. IsFaultOf made said)
passed_on (Ok a) why said same is = tt
passed_on {A} {B} (Err made) why said same is = subst (λ (f : BodyFault). IsFaultOf {T = B} f said) (sym same) is
