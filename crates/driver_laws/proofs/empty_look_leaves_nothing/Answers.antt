use Rattle.driver_laws.proofs.Reported.{none_before, none_first}

pub returns : Rattle.driver_laws.proofs.empty_look_leaves_nothing.Goals.returns
returns c = record {
  before = λ x new v y. none_before x y.look (λ since is. is) y.looks;
  first = λ x new v y. none_first x y.look (λ since is. is) y.looks;
}
