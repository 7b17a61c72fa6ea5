use Rattle.std.proofs.Common.{◌≡◌, ℕ, subst}
use Rattle.std.proofs.lemmas.Result.{err_from_is_err_and}
use Rattle.pmd_access.specs.Setup.{word_in}
use Rattle.pmd_access.proofs.Asking.{asks_then}
use Rattle.pmd_access.proofs.Sequences.{packed_next, packed_stops}
use Rattle.pmd_access.proofs.setup.set_packed.Goals as goal

pub returns-in_err-set-clause-failed : goal.returns-in_err-set-clause-failed
returns-in_err-set-clause-failed g c =
    let p = err_from_is_err_and c.from_residual.result c.from_residual.ensures.1 in
    let same : ℕ → Type 0 = λ n. c.word_in-word.result ≡ word_in c.args.bytes.now n in
    rw (p.1, p.2)
    (packed_stops c.in_err-set.field-0.0 (g.N.Nic.made c.args.nic.now) (g.N.Nic.made c.loop-index.nic)
    (g.N.Nic.made c.set.new.nic) c.args.row c.args.bytes.now c.loop-index.index c.args.count c.word_in-word.result
    c.loop-index-test.true c.loop-index.invariant.1 c.in_err-set.ensures.failed
    (subst same c.from.ensures c.word_in-word.ensures))

pub loop-index-preserved : goal.loop-index-preserved
loop-index-preserved g c = (
  asks_then c.loop-index.invariant.0
      (record { began = c.set.ensures.began; refuses = c.set.ensures.refuses; refusal = tt }),
  packed_next (g.N.Nic.made c.args.nic.now) (g.N.Nic.made c.loop-index.nic) (g.N.Nic.made c.set.new.nic) c.args.row
      c.args.bytes.now c.loop-index.index c.word_in-word.result c.loop-index.invariant.1 c.in_ok-set.ensures.set
      (let same : ℕ → Type 0 = λ n. c.word_in-word.result ≡ word_in c.args.bytes.now n in subst same c.from.ensures
      c.word_in-word.ensures),
)
