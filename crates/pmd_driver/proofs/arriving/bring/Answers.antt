use Rattle.pmd_driver.proofs.arriving.bring.Goals as goal

pub returns-in-Err-clause-asks : goal.returns-in-Err-clause-asks
returns-in-Err-clause-asks g c = record {
  began = c.call.ensures.began;
  refuses = c.call.ensures.refuses;
  refusal = c.without_event.ensures.refusal _ c.in-Err.ensures.refusal;
}
