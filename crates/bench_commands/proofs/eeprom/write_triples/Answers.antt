use Rattle.std.proofs.Common.{refl, rules, sym, ap, ◌∙◌, subst, [], ◌++◌, append_assoc, append-nil, List, ℕ}
use Rattle.std.specs.Io.KnownBytes.{Appends}
use Rattle.std.specs.List.{flat_map}
use Rattle.bench_commands.specs.Eeprom.{triple_line}
use Rattle.bench_commands.proofs.Appending.{Appends-both, Appends-none}
use Rattle.bench_commands.proofs.eeprom.write_triples.Goals as goal

pub loop-triple-init : goal.loop-triple-init
loop-triple-init g c = ([], Appends-none _, ap (flat_map triple_line) (search rules))

pub loop-triple-preserved : goal.loop-triple-preserved
loop-triple-preserved g c =
    let so_far = c.loop-triple.invariant in (
      so_far.0 ++ triple_line c.in-Some.triple,
      Appends-both _ _ _ so_far.0 _ so_far.1 c.in_ok-write_triple.ensures.ok,
      append_assoc so_far.0 _ _ ∙ ap (λ (t : List ℕ). so_far.0 ++ t)
          (sym (ap (flat_map triple_line) c.in-Some.ensures.steps)) ∙ so_far.2,
    )

pub returns : goal.returns
returns g c =
    let so_far = c.loop-triple.invariant in (
      subst (Appends _ _) (sym (append-nil so_far.0)
          ∙ ap (λ (t : List ℕ). so_far.0 ++ t) (sym (ap (flat_map triple_line) c.in-None.ensures.steps.0)) ∙ so_far.2)
          so_far.1,
      refl,
    )
