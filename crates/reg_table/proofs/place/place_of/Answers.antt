use Rattle.reg_table.proofs.Views.{exact_if, nothing_if}
use Rattle.reg_table.proofs.place.place_of.Goals as goal

pub returns-in-Some-clause-exact : goal.returns-in-Some-clause-exact
returns-in-Some-clause-exact c = exact_if c.args.address _ c.in-Some.ensures.place

pub returns-in-Some-clause-nothing : goal.returns-in-Some-clause-nothing
returns-in-Some-clause-nothing c = nothing_if c.args.address _ c.in-Some.ensures.place

pub returns-in-None-clause-exact : goal.returns-in-None-clause-exact
returns-in-None-clause-exact c = exact_if c.args.address _ c.in-None.ensures.place

pub returns-in-None-clause-nothing : goal.returns-in-None-clause-nothing
returns-in-None-clause-nothing c = nothing_if c.args.address _ c.in-None.ensures.place
