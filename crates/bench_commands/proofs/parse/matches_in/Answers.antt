use Rattle.std.proofs.Common.{map, ap, subst, refl, true, ◌≡◌, ◌∙◌}
use Rattle.clap.specs.Words.{App, FailsBy, fault_of, is_simple_and_free}
use Rattle.clap.proofs.OnLiterals.{clap_on_literals}
use Rattle.bench_commands.specs.Commands.{nicbench_app}
use Rattle.bench_commands.proofs.parse.matches_in.Goals as goal

pub returns-clause-faults : goal.returns-clause-faults
unfolding clap_on_literals
returns-clause-faults g c =
    let free : is_simple_and_free nicbench_app ≡ true = refl in
    let same = c.in_ok-command.ensures.ok in
    subst (λ (a : App). FailsBy (fault_of a (map g.S.AsStr.text c.args.words.now)) c.try_get_matches_from.result) same
    (c.try_get_matches_from.ensures.kinds (ap is_simple_and_free same ∙ free))
