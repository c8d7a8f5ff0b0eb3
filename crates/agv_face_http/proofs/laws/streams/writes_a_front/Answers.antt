use Rattle.agv_face_http.proofs.Ending.{machine_end, read_end, write_end}
use Rattle.agv_face_http.proofs.laws.streams.writes_a_front.Goals as goal

pub returns-clause-to_end : goal.returns-clause-to_end
returns-clause-to_end c = λ seats world at input whole beyond output ending out left answers is.
    c.writes_one_output.ensures seats world at input out whole left beyond is.output output

pub returns-clause-machine : goal.returns-clause-machine
returns-clause-machine c = machine_end

pub returns-clause-read_fault : goal.returns-clause-read_fault
returns-clause-read_fault c = read_end

pub returns-clause-write_fault : goal.returns-clause-write_fault
returns-clause-write_fault c = write_end
