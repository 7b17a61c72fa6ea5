use Rattle.std.proofs.Common.{◌≡◌, ◌<◌, ◌-◌, ℕ, true, false, nat_lt, refl, ap, subst, arith}
use Rattle.std.proofs.lemmas.Bool.{ne_eqb, le-ltb, ltb-true}
use Rattle.nic_device.specs.Interrupt.{has_group}
use Rattle.nic_device.specs.Outcome.{Outcome, gives}
use Rattle.nic_device.specs.State.{State}
use Rattle.nic_device.specs.Step.{step_of}
use Rattle.nic_device.specs.declared.event.Event.TheVariants as event
use Rattle.nic_device.specs.declared.event.Reply.TheVariants.{NoGroup}
use Rattle.nic82599_c.specs.Outcome.{group_of}
use Rattle.nic82599_c.specs.Settling.{event_of}
use Rattle.nic82599_c.specs.declared.settling.Step.{Step}
use Rattle.nic82599_c.specs.declared.settling.Step.TheVariants as step
use Rattle.nic82599_c.proofs.settling.is_absent.Goals as goal

-- An interrupt step does nothing for a group above the device's last function.
none : (s : State) (group : ℕ) → s.vfs < group → has_group s (group_of group) ≡ false
none s group above =
    rw (ne_eqb group 0 (omega (arith, above)), le-ltb (group - 1) s.vfs (omega (arith, above))) refl

absent : (s : State) (group : ℕ) → s.vfs < group → step_of s (event.IntStep (group_of group)) ≡ gives NoGroup s
unfolding step_of
absent s group above = rw (none s group above) refl

nothing : (s : State) (x : Step) (vfs group : ℕ) → x ≡ step.Interrupt group → vfs ≡ s.vfs → nat_lt vfs group ≡ true
    → step_of s (event_of x) ≡ gives NoGroup s
nothing s x vfs group is same above =
    rw is (absent s group (subst (λ (k : ℕ). k < group) same (ltb-true vfs group above)))

pub returns-in-Interrupt-clause-quiet : goal.returns-in-Interrupt-clause-quiet
returns-in-Interrupt-clause-quiet c = λ above.
    ap (λ (o : Outcome). o.reply)
    (nothing c.args.card.now.device c.args.step c.vfs.result c.in-Interrupt.group c.in-Interrupt.is c.vfs.ensures above)

pub returns-in-Interrupt-clause-kept : goal.returns-in-Interrupt-clause-kept
returns-in-Interrupt-clause-kept c = λ above.
    ap (λ (o : Outcome). o.state)
    (nothing c.args.card.now.device c.args.step c.vfs.result c.in-Interrupt.group c.in-Interrupt.is c.vfs.ensures above)
