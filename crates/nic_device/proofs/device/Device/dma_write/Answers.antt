use Rattle.std.proofs.Common.{◌<◌, sym, subst, ◌∙◌, arith}
use Rattle.std.proofs.lemmas.List.Elements.{All-from_get_or}
use Rattle.nic_device.specs.Bus.{PokesLead}
use Rattle.nic_device.specs.State.{State}
use Rattle.nic_device.proofs.Ranges.{pokes-written, sound-written}
use Rattle.nic_device.proofs.device.Device.dma_write.Goals as goal

pub invariant_of-self : goal.invariant_of-self
invariant_of-self c =
    let at = c.write_range.ensures in
    sound-written c.self.inside.engine _ c.args.bus c.args.bytes.now c.write_range.result at.written at.kept
    c.self.invariant
    (All-from_get_or (λ byte. byte < 256) c.args.bytes.now 0 (λ i lt. omega (arith, c.type_inv.bytes i)))

pub returns-clause-pokes : goal.returns-clause-pokes
returns-clause-pokes c n done aligned long =
    let at = c.write_range.ensures in
    subst (λ (s : State). PokesLead s c.args.bus n c.args.bytes.now c.write_range.new.self) c.self.view_is
    (pokes-written c.self.inside.engine _ c.args.bus n c.args.bytes.now (sym at.lent ∙ done) (at.written done) aligned
    long)
