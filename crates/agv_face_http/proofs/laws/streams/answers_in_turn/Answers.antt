use Rattle.std.proofs.lemmas.List.Elements.{filter_map-append}
use Rattle.agv_face_http.proofs.Joining.{answers_join, worlds_join}
use Rattle.agv_face_http.proofs.laws.streams.answers_in_turn.Goals as goal

pub returns-clause-answers : goal.returns-clause-answers
returns-clause-answers c = λ seats world at requests more. answers_join seats at world requests more

pub returns-clause-world : goal.returns-clause-world
returns-clause-world c = λ seats world at requests more. worlds_join seats at world requests more

pub returns-clause-calls : goal.returns-clause-calls
returns-clause-calls c = λ requests more at. filter_map-append _ requests more
