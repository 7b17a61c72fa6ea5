use Rattle.std.proofs.Common.{◌≡◌, ◌∙◌, ◌+◌, ◌==◌, ◌||◌, true, false, Bool, drop, sym, ap, arith}
use Rattle.std.specs.List.{list_any}
use Rattle.std.proofs.lemmas.Bool.{eq-eqb}
use Rattle.std.proofs.lemmas.Bool.Decides.{nat_tests}
use Rattle.pmd_access.specs.Bufs.{numbers_of}
use Rattle.pmd_tx.proofs.Numbering.{numbers-left}
use Rattle.pmd_tx.proofs.sending.comes_again.Goals as goal

pub returns-then-block : goal.returns-then-block
returns-then-block c =
    let bs = c.args.bufs.now in
    let k = c.loop-later.later in
    let count = c.count-count.ensures.count in
    let test = c.loop-later-test.true in
    let left = numbers-left bs k c.get.result.now (omega (arith, count, test)) c.get.ensures in
    let same : (c.args.block == c.get.result.now.number) ≡ true =
    eq-eqb c.args.block c.get.result.now.number (sym c.if-block.true ∙ c.block.ensures.number) in
    sym (c.loop-later.invariant ∙ ap (list_any (λ b. c.args.block == b)) left
    ∙ ap (λ (t : Bool). t || list_any (λ b. c.args.block == b) (drop (k + 1) (numbers_of bs))) same)

pub loop-later-preserved : goal.loop-later-preserved
loop-later-preserved c =
    let bs = c.args.bufs.now in
    let k = c.loop-later.later in
    let count = c.count-count.ensures.count in
    let test = c.loop-later-test.true in
    let left = numbers-left bs k c.get.result.now (omega (arith, count, test)) c.get.ensures in
    let number = c.block.ensures.number in
    let other : (c.args.block == c.get.result.now.number) ≡ false =
    grind (arith, nat_tests, c.if-block.false, number) in
    c.loop-later.invariant ∙ ap (list_any (λ b. c.args.block == b)) left
    ∙ ap (λ (t : Bool). t || list_any (λ b. c.args.block == b) (drop (k + 1) (numbers_of bs))) other
