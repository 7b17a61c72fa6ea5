use Rattle.std.proofs.Common.{sym, ap, subst, ◌∙◌}
use Rattle.rx_ring.specs.DmaArena.Memory.{Memory, IsWhole}
use Rattle.nic_device.specs.Blocks.{AreFree, AreRising, HaveLeft, memory_of}
use Rattle.nic_device.proofs.Leaving.{away-left}
use Rattle.nic_device.proofs.copies.Blocks.lent.Goals as goal

pub lend_all-requires-clause-rising : goal.lend_all-requires-clause-rising
lend_all-requires-clause-rising c = subst AreRising (sym c.deref.ensures.value) c.self.invariant

pub lend_all-requires-clause-free : goal.lend_all-requires-clause-free
lend_all-requires-clause-free c =
    let seen = ap memory_of c.deref.ensures.value ∙ c.self.view_is in
    subst (λ (m : Memory). AreFree c.args.arena.now m) (sym seen) c.requires.free

pub lend_all-requires-clause-whole : goal.lend_all-requires-clause-whole
lend_all-requires-clause-whole c =
    let seen = ap memory_of c.deref.ensures.value ∙ c.self.view_is in
    subst IsWhole (sym seen) c.requires.whole

pub give_all_back-requires : goal.give_all_back-requires
give_all_back-requires c = away-left c.args.arena.now c.lend_all.new.arena c.lend_all.new.memory c.lend_all.ensures.left

pub returns-in-Ok-clause-lent : goal.returns-in-Ok-clause-lent
returns-in-Ok-clause-lent c = c.in-Ok.ensures.lent ∙ ap memory_of c.deref.ensures.value ∙ c.self.view_is

pub returns-in-Ok-clause-left : goal.returns-in-Ok-clause-left
returns-in-Ok-clause-left c =
    let lent = c.in-Ok.ensures.lent ∙ ap memory_of c.deref.ensures.value ∙ c.self.view_is in
    subst (λ (m : Memory). HaveLeft c.args.arena.now c.lend_all.new.arena m) lent c.lend_all.ensures.left

pub returns-in-Err-clause-kept : goal.returns-in-Err-clause-kept
returns-in-Err-clause-kept c = c.give_all_back.ensures c.args.arena.now c.lend_all.ensures.left
