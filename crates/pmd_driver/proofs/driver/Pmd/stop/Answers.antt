use Rattle.std.proofs.Common.{◌∙◌, ap, ◌≡◌, ℕ}
use Rattle.pmd_driver.specs.Halted.{Halted, all_out, is_free_or_out}
use Rattle.pmd_driver.specs.Stopping.{Stops, StopFails}
use Rattle.pmd_access.specs.Named.{AtPort}
use Rattle.pmd_driver.specs.Driver.{Driver}
use Rattle.pmd_driver.specs.declared.driver.Rings.TheVariants.{Down}
use Rattle.pmd_driver.proofs.Driving.{stops_as}
use Rattle.pmd_access.specs.NicDevice.DmaArena.Numbers.{is_free}
use Rattle.pmd_driver.proofs.driver.Pmd.stop.Goals as goal

pub returns-in-Ok-clause-home : goal.returns-in-Ok-clause-home
returns-in-Ok-clause-home g c =
    let d : Driver = record { queue = c.self.inside.queue; rings = c.self.inside.rings } in
    stops_as
    (λ (q : AtPort) (h : Halted). Stops q (g.N.Nic.made c.args.nic.now) h (g.N.Nic.made c.stop.new.nic) c.in-Ok.home)
    d c.args.self c.halt-halted.result c.self.view_is c.halt-halted.ensures c.in-Ok.ensures.home

pub returns-in-Err-clause-refused : goal.returns-in-Err-clause-refused
returns-in-Err-clause-refused g c =
    let d : Driver = record { queue = c.self.inside.queue; rings = c.self.inside.rings } in
    let left : Halted = c.in-Err.failed.halted in (
      left,
      c.of.ensures ∙ ap (λ (x : Driver). let y : Driver = record x { rings = Down left } in y) c.self.view_is,
      stops_as
          (λ (q : AtPort) (h : Halted). StopFails c.in-Err.failed.fault q (g.N.Nic.made c.args.nic.now) h
          (g.N.Nic.made c.stop.new.nic) left)
          d c.args.self c.halt-halted.result c.self.view_is c.halt-halted.ensures c.in-Err.ensures.failed,
    )

pub returns-in-Ok-clause-free : goal.returns-in-Ok-clause-free
returns-in-Ok-clause-free g c =
    let d : Driver = record { queue = c.self.inside.queue; rings = c.self.inside.rings } in
    stops_as
    (λ (q : AtPort) (h : Halted). c.in-Ok.home.lost ≡ 0
    → (n : ℕ) → is_free c.in-Ok.home.arena n ≡ is_free_or_out h.arena (all_out h) n)
    d c.args.self c.halt-halted.result c.self.view_is c.halt-halted.ensures c.in-Ok.ensures.free
