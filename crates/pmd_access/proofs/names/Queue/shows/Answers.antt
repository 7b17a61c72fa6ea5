use Rattle.std.proofs.Common.{sym, subst}
use Rattle.device_lock.specs.NicDevice.declared.event.Event.TheVariants as event
use Rattle.device_lock.specs.NicDevice.declared.event.Port.{Port}
use Rattle.device_lock.specs.NicDevice.declared.event.Reply.TheVariants as reply
use Rattle.pmd_access.specs.Made.{Adds}
use Rattle.pmd_access.proofs.names.Queue.shows.Goals as goal

pub returns-in-Ok-Some-clause-seen : goal.returns-in-Ok-Some-clause-seen
returns-in-Ok-Some-clause-seen g c =
    let q = c.args.self.now in
    let number = c.number_of-number.result in
    let word = c.in-Ok-Some.word in (
      number,
      word,
      c.number_of-number.ensures,
      sym c.is_enabled.ensures,
      subst (λ (p : Port). Adds (g.N.Nic.made c.args.nic.now) (g.N.Nic.made c.read.new.nic) (event.Read p number)
          (reply.Word word)) c.port.ensures (rw c.in-Ok-Some.field-0-is at c.in-Ok-Some.ensures.made),
    )
