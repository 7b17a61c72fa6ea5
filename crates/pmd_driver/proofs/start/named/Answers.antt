use Rattle.std.proofs.Common.{rules}
use Rattle.pmd_driver.proofs.start.named.Goals as goal

pub returns-in-Some-new-clause-named : goal.returns-in-Some-new-clause-named
returns-in-Some-new-clause-named c = record {
  open_way = search rules;
  queue = search rules;
  places = record {
    sized = search rules;
    framed = search rules;
    some = search rules;
    few = search rules;
    runs = search rules;
    enough = search rules;
  };
}

pub returns-in-Some-new-clause-shut : goal.returns-in-Some-new-clause-shut
returns-in-Some-new-clause-shut c = tt
