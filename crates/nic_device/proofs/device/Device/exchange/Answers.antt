use Rattle.std.proofs.Common.{◌*◌, sym, ◌∙◌, ap, subst, length}
use Rattle.nic_device.specs.Bus.{PokesLead}
use Rattle.nic_device.specs.Sound.{AreBytes}
use Rattle.nic_device.specs.State.{State}
use Rattle.nic_device.proofs.Ranges.{pokes-exchanged, sound-exchanged}
use Rattle.nic_device.proofs.device.Device.exchange.Goals as goal

pub invariant_of-self : goal.invariant_of-self
invariant_of-self c =
    let at = c.exchange.ensures in
    sound-exchanged c.self.inside.engine _ c.args.block c.args.memory.value c.exchange.result at.ok.0 at.put at.kept
    c.self.invariant
    (ap length (sym c.deref.ensures) ∙ c.if-prove.false)
    (subst AreBytes c.deref.ensures c.are_bytes.ensures)

pub returns-clause-pokes : goal.returns-clause-pokes
returns-clause-pokes c ok =
    let at = c.exchange.ensures in
    subst (λ (s : State). PokesLead s (2048 * c.args.block) 128 c.args.memory.value c.exchange.new.self) c.self.view_is
    (pokes-exchanged c.self.inside.engine _ c.args.block c.args.memory.value c.exchange.result
    c.self.invariant.blocks.whole at.ok.0 at.put (ap length (sym c.deref.ensures) ∙ c.if-prove.false) ok)
