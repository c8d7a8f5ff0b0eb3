use Rattle.agv_face.proofs.laws.streams_have_histories.Goals as goal

pub returns-clause-start : goal.returns-clause-start
returns-clause-start g c desk desk_then requests done clean some = (done.knew clean some).has.lawful

pub returns-clause-begun : goal.returns-clause-begun
returns-clause-begun g c desk desk_then input requests done clean some = (done.knew clean some).has.lawful
