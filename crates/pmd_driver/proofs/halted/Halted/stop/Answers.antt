use Rattle.std.proofs.Common.{◌≡◌, ℕ, List, Result, IfOk, inr, sym, subst, inl, refl}
use Rattle.std.proofs.lemmas.Result.{IfOk-weaker, IfErr-weaker}
use Rattle.pmd_access.specs.DeviceLock.declared.entry.Call.{Call}
use Rattle.pmd_access.specs.NicDevice.DmaArena.Numbers.{is_own, is_free}
use Rattle.pmd_access.specs.Named.{AtPort}
use Rattle.pmd_driver.specs.Halted.{Halted, IsHalted, all_out, is_free_or_out}
use Rattle.pmd_driver.specs.Leaving.{leaving_as}
use Rattle.pmd_driver.specs.Stopping.{GoesHome, IsLeft, StopFails, closed}
use Rattle.pmd_driver.specs.declared.home.Home.{Home}
use Rattle.pmd_driver.specs.declared.home.StopFailed.{StopFailed}
use Rattle.pmd_driver.proofs.HaltedBlocks.{closed_halted, home_free, home_own}
use Rattle.pmd_driver.proofs.halted.Halted.stop.Goals as goal

pub go_home-requires : goal.go_home-requires
go_home-requires g c =
    subst (λ (h : Halted). IsHalted h) (sym c.in-Ok.ensures.closed) (closed_halted c.args.self c.close.ensures.out)

-- `GoesHome` carries over to an equal driver. It is used for the driver after its rings were closed.
goes_closed : (r : Result Home StopFailed) (q : AtPort) (old new : List Call) (h k : Halted) → h ≡ k
    → IfOk r (λ home. GoesHome q old h new home) → IfOk r (λ home. GoesHome q old k new home)
goes_closed r q old new h k is = subst (λ (x : Halted). IfOk r (λ home. GoesHome q old x new home)) is

pub returns-in-Ok-clause-owns : goal.returns-in-Ok-clause-owns
returns-in-Ok-clause-owns g c =
    let old = g.N.Nic.made c.args.nic.now in
    let new = g.N.Nic.made c.go_home.new.nic in
    let h : Halted = c.args.self in
    IfOk-weaker c.go_home.result (λ home. GoesHome c.args.queue.now old (closed h) new home)
    (λ home. (n : ℕ) → is_own home.arena n ≡ is_own h.arena n)
    (λ home goes. home_own c.args.queue.now old new h home goes)
    (goes_closed c.go_home.result c.args.queue.now old new (leaving_as c.in-Ok.leaving) (closed h)
    c.in-Ok.ensures.closed c.go_home.ensures.home)

pub returns-in-Ok-clause-free : goal.returns-in-Ok-clause-free
returns-in-Ok-clause-free g c =
    let old = g.N.Nic.made c.args.nic.now in
    let new = g.N.Nic.made c.go_home.new.nic in
    let h : Halted = c.args.self in
    IfOk-weaker c.go_home.result (λ home. GoesHome c.args.queue.now old (closed h) new home)
    (λ home. home.lost ≡ 0 → (n : ℕ) → is_free home.arena n ≡ is_free_or_out h.arena (all_out h) n)
    (λ home goes. home_free c.args.queue.now old new h home c.close.ensures.out goes)
    (goes_closed c.go_home.result c.args.queue.now old new (leaving_as c.in-Ok.leaving) (closed h)
    c.in-Ok.ensures.closed c.go_home.ensures.home)

pub returns-in-Ok-clause-failed : goal.returns-in-Ok-clause-failed
returns-in-Ok-clause-failed g c =
    IfErr-weaker c.go_home.result
    (λ failed. IsLeft failed.fault c.args.queue.now (g.N.Nic.made c.args.nic.now) (leaving_as c.in-Ok.leaving)
    (g.N.Nic.made c.go_home.new.nic) failed.halted)
    (λ failed. StopFails failed.fault c.args.queue.now (g.N.Nic.made c.args.nic.now) c.args.self
    (g.N.Nic.made c.go_home.new.nic) failed.halted)
    (λ failed left. inr (subst (λ (h : Halted). IsLeft failed.fault c.args.queue.now (g.N.Nic.made c.args.nic.now) h
    (g.N.Nic.made c.go_home.new.nic) failed.halted) c.in-Ok.ensures.closed left))
    c.go_home.ensures.failed

pub returns-in-Err-clause-failed : goal.returns-in-Err-clause-failed
returns-in-Err-clause-failed g c = inl (refl, refl, c.in-Err.ensures.left)
