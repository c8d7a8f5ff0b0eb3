-- The printer's options are two decimals, `T` and `Z`; its text is then the stamp, and nothing in it is escaped.
use Rattle.std.proofs.Common.{◌≡◌, ◌++◌, ◌∷◌, [], ℕ, List, Bool, Option, Some, IsUtf8, cond, subst, ap, sym, ◌∙◌, ℤ, ◌*ℤ◌, pos, FitsSigned, w64, rules}
use Rattle.std.proofs.lemmas.Int.{to_z-of_z}
use Rattle.jiff.specs.Types.{Timestamp}
use Rattle.jiff.specs.Words.{civil_nanos, datetime_text}
use Rattle.agv_header.specs.Stamp.{stamp_of}
use Rattle.agv_header.proofs.StampLemmas.{stamp_shown}
use Rattle.agv_message_json.proofs.Appending.{same_text}
use Rattle.agv_message_json.proofs.Readings.{text-readable}
use Rattle.agv_message_json.proofs.Stamps.{escape-stamp}
use Rattle.agv_message_json.proofs.stamp.put_stamp.Goals as goal

abbrev Options : Type 0
Options = Bool × ℕ × Option ℕ

printed_stamp : (c : goal.After-put_words) → c.as_bytes.result.now ≡ stamp_of c.args.at
printed_stamp c =
    let shown = c.timestamp_text-text.ensures in
    let with_two : Options → Options = λ o. (o.0, o.1, Some 2) in
    let options = c.precision.ensures ∙ ap with_two c.new.ensures in
    let printed : Options → List ℕ = λ o. datetime_text o.0 o.1 o.2 shown.0 ++ (cond o.0 122 90) ∷ [] in
    let fits : FitsSigned w64 c.ms.result = search rules in
    let value = simp to_z-of_z at c.in-Ok.ensures.value in
    let instant = ap (λ (s : Timestamp). s.nanosecond) c.to_plain.ensures ∙ value in
    let nanos : civil_nanos shown.0 ≡ pos c.args.at *ℤ pos 1000000 = shown.1 ∙ instant ∙ ap (λ (z : ℤ). z *ℤ pos 1000000) c.ms.ensures.value in
    c.as_bytes.ensures.value ∙ c.as_str.ensures.value ∙ shown.2 ∙ ap printed options ∙ stamp_shown c.args.at shown.0 c.ms.ensures.range nanos

pub returns-clause-appended : goal.returns-clause-appended
returns-clause-appended c =
    let plain = printed_stamp c ∙ sym (escape-stamp c.args.at c.ms.ensures.range) in
    same_text _ _ _ _ _ (ap (λ (s : List ℕ). 34 ∷ (s ++ 34 ∷ [])) plain) c.put_words.ensures

pub returns-clause-readable : goal.returns-clause-readable
returns-clause-readable c = text-readable (stamp_of c.args.at) (subst IsUtf8 (printed_stamp c) c.as_bytes.ensures.utf8)
