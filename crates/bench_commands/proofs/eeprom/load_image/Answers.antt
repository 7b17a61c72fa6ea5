use Rattle.nic_device.specs.EepromImage.File.{file_fault}
use Rattle.nic_device.specs.EepromImage.Triples.{triples_of}
use Rattle.bench_commands.specs.Eeprom.{IsLoadAnswer, file_refused, triples_answer}
use Rattle.bench_commands.proofs.Giving.{begins-with-nothing, gives-right}
use Rattle.bench_commands.proofs.Images.{fault-of-file, triples-of-file}
use Rattle.bench_commands.proofs.eeprom.load_image.Goals as goal

pub returns-in-Ok : goal.returns-in-Ok
returns-in-Ok g c =
    let right = triples-of-file (file_fault c.args.bytes.now) c.args.bytes.now c.in-Ok.image c.in-Ok.ensures.ok
    c.in-Ok.ensures.file.0 c.in-Ok.ensures.file.1 c.in-Ok.ensures.each_file in
    gives-right _ _ _ c.write_triples.result (triples_answer (triples_of c.in-Ok.image)) (IsLoadAnswer c.args.bytes.now)
    right.0 right.1 c.write_triples.ensures

pub returns-in-None : goal.returns-in-None
returns-in-None g c = λ answer right. begins-with-nothing _ _

pub returns-in-Some : goal.returns-in-Some
returns-in-Some g c =
    let right = fault-of-file c.in-Err.fault (file_fault c.args.bytes.now) c.args.bytes.now c.in-Some.ensures.0
    c.in-Err.ensures.fault in
    gives-right _ _ _ c.write_refusal.result (file_refused c.in-Err.fault) (IsLoadAnswer c.args.bytes.now) right.0
    right.1
    (rw c.in-Some.ensures.1 at c.write_refusal.ensures.gives)
