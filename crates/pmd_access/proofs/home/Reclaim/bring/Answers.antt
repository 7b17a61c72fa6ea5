use Rattle.std.proofs.Common.{◌∙◌, arith}
use Rattle.pmd_access.specs.Home.{Bringing, StopsBringing}
use Rattle.pmd_access.proofs.Refusals.{on_err}
use Rattle.pmd_access.proofs.Bringing.{one_less, brings_more, brings_all}
use Rattle.pmd_access.proofs.home.Reclaim.bring.Goals as goal

pub bring_one-requires-clause-some : goal.bring_one-requires-clause-some
bring_one-requires-clause-some g c =
    omega (arith, c.loop-count.invariant.2, c.loop-count-test.true, c.waiting-count-end.ensures)

pub bring_one-requires-clause-out : goal.bring_one-requires-clause-out
bring_one-requires-clause-out g c = c.loop-count.invariant.1

pub returns-in_err-bring_one-clause-stopped : goal.returns-in_err-bring_one-clause-stopped
returns-in_err-bring_one-clause-stopped g c =
    let s : Bringing =
    record { made = g.N.Nic.made c.args.nic.now; arena = c.args.arena.now; way = c.args.self.now } in
    let m : Bringing =
    record { made = g.N.Nic.made c.loop-count.nic; arena = c.loop-count.arena; way = c.loop-count.self } in
    let t : Bringing =
    record { made = g.N.Nic.made c.bring_one.new.nic; arena = c.bring_one.new.arena; way = c.bring_one.new.self } in
    let stopped : StopsBringing s t = (
      c.loop-count._count,
      m,
      c.loop-count.invariant.3,
      c.in_err-bring_one.ensures.refused,
      c.in_err-bring_one.ensures.same.1,
      c.in_err-bring_one.ensures.same.0,
      omega (arith, c.loop-count.invariant.2, c.loop-count-test.true, c.waiting-count-end.ensures),
    ) in
    on_err _ stopped

pub returns-clause-all : goal.returns-clause-all
returns-clause-all g c =
    let s : Bringing =
    record { made = g.N.Nic.made c.args.nic.now; arena = c.args.arena.now; way = c.args.self.now } in
    let m : Bringing =
    record { made = g.N.Nic.made c.loop-count.nic; arena = c.loop-count.arena; way = c.loop-count.self } in
    brings_all c.loop-count._count s m c.loop-count.invariant.3
    (omega (arith, c.loop-count.invariant.2, c.loop-count-test.false, c.waiting-count-end.ensures))

pub returns-clause-out : goal.returns-clause-out
returns-clause-out g c = c.loop-count.invariant.1

pub returns-clause-began : goal.returns-clause-began
returns-clause-began g c = c.loop-count.invariant.0

pub returns-in_err-bring_one-clause-began : goal.returns-in_err-bring_one-clause-began
returns-in_err-bring_one-clause-began g c = λ o is. c.bring_one.ensures.began o (c.loop-count.invariant.0 o is)

pub returns-clause-refuses : goal.returns-clause-refuses
returns-clause-refuses g c = c.loop-count.invariant.4

pub returns-in_err-bring_one-clause-refuses : goal.returns-in_err-bring_one-clause-refuses
returns-in_err-bring_one-clause-refuses g c = c.bring_one.ensures.refuses ∙ c.loop-count.invariant.4

pub loop-count-preserved : goal.loop-count-preserved
loop-count-preserved g c =
    let s : Bringing =
    record { made = g.N.Nic.made c.args.nic.now; arena = c.args.arena.now; way = c.args.self.now } in
    let m : Bringing =
    record { made = g.N.Nic.made c.loop-count.nic; arena = c.loop-count.arena; way = c.loop-count.self } in
    let t : Bringing =
    record { made = g.N.Nic.made c.bring_one.new.nic; arena = c.bring_one.new.arena; way = c.bring_one.new.self } in (
      λ o is. c.bring_one.ensures.began o (c.loop-count.invariant.0 o is),
      c.bring_one.ensures.out,
      omega (arith, c.loop-count.invariant.2, one_less m t c.in_ok-bring_one.ensures.one),
      brings_more c.loop-count._count s m t c.loop-count.invariant.3 c.in_ok-bring_one.ensures.one,
      c.bring_one.ensures.refuses ∙ c.loop-count.invariant.4,
    )
