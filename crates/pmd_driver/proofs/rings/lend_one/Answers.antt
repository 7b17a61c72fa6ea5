use Rattle.std.proofs.Common.{rules, ap, ◌∙◌}
use Rattle.pmd_access.specs.NicDevice.DmaArena.Block.{Block}
use Rattle.pmd_rx.proofs.Fresh.{back_home}
use Rattle.pmd_driver.proofs.rings.lend_one.Goals as goal

pub returns-in-Ok-Some-clause-lends : goal.returns-in-Ok-Some-clause-lends
returns-in-Ok-Some-clause-lends g c = (
  search rules,
  back_home c.args.arena.now c.take_at.new.self c.give_back.new.self c.args.block _
      c.requires c.in-Some.ensures.taken
      ((rw c.in-Ok-Some.field-0-is at c.in-Ok-Some.ensures.number)
      ∙ ap (λ (x : Block). x.number) c.in-Some.ensures.zero)
      c.give_back.ensures,
)

pub returns-in-Err-clause-lends : goal.returns-in-Err-clause-lends
returns-in-Err-clause-lends g c = (
  search rules,
  back_home c.args.arena.now c.take_at.new.self c.give_back-in-Err.new.self c.args.block _
      c.requires c.in-Some.ensures.taken
      (ap (λ (x : Block). x.number) c.in-Err.ensures.back ∙ ap (λ (x : Block). x.number) c.in-Some.ensures.zero)
      c.give_back-in-Err.ensures,
)
