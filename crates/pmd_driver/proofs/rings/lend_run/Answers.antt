use Rattle.std.proofs.Common.{ℕ, ◌+◌, List, [], ◌∷◌, ◌++◌, sym, ap, subst, ◌∙◌, arith}
use Rattle.std.specs.List.{range_with_len}
use Rattle.pmd_access.specs.NicDevice.DmaArena.Numbers.{Numbers}
use Rattle.pmd_access.specs.Home.{IsDrawn}
use Rattle.pmd_access.proofs.Rings.{range_more}
use Rattle.pmd_access.proofs.Asking.{asks_then}
use Rattle.pmd_driver.specs.Starting.{StopsLending}
use Rattle.pmd_driver.proofs.Lending.{drawn_next, lends_next, stops_next, next_free}
use Rattle.pmd_driver.proofs.rings.lend_run.Goals as goal

pub lend_one-requires : goal.lend_one-requires
lend_one-requires g c =
    next_free c.args.arena.now c.args.first c.args.count c.loop-k.k c.loop-k.arena c.loop-k.invariant.drawn
    (omega (arith, c.loop-k-test.true)) c.requires.free

pub loop-k-preserved : goal.loop-k-preserved
loop-k-preserved g c = record {
  lent = lends_next _ _ _ c.args.first c.loop-k.k c.loop-k.invariant.lent c.in-Ok.ensures.lends.0;
  drawn = subst (λ (x : Numbers). IsDrawn c.args.arena.now (range_with_len c.args.first (c.loop-k.k + 1)) x)
      (sym c.in-Ok.ensures.lends.1)
      (drawn_next c.args.arena.now c.args.first c.args.count c.loop-k.k c.loop-k.arena c.loop-k.invariant.drawn
      (omega (arith, c.loop-k-test.true)) c.requires.free);
  items =
      c.push_back_reserved.ensures.items
      ∙ ap (λ (l : List ℕ). l ++ (c.args.first + c.loop-k.k) ∷ []) c.loop-k.invariant.items
      ∙ sym (range_more c.args.first c.loop-k.k);
  room =
      omega
      (arith, c.loop-k.invariant.room, c.push_back_reserved.ensures.len, c.push_back_reserved.ensures.capacity);
  asks = asks_then c.loop-k.invariant.asks c.in-Ok.ensures.asks;
}

pub returns-in-Err-clause-lends : goal.returns-in-Err-clause-lends
returns-in-Err-clause-lends g c =
    subst (λ (x : Numbers). StopsLending c.in-Err.fault (range_with_len c.args.first c.args.count)
    (g.N.Nic.made c.args.nic.now) c.args.arena.now (g.N.Nic.made c.lend_one.new.nic) x c.loop-k.lent.items)
    (sym c.in-Err.ensures.lends.1)
    (stops_next c.in-Err.fault c.args.first c.args.count c.loop-k.k _ c.args.arena.now _ c.loop-k.arena _ _
    (omega (arith, c.loop-k-test.true)) c.loop-k.invariant.lent c.loop-k.invariant.drawn c.requires.free
    c.in-Err.ensures.lends.0 c.loop-k.invariant.items)
