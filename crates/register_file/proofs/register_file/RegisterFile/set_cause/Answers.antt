use Rattle.std.proofs.Common.{ap, ◌∙◌, subst, arith}
use Rattle.register_file.specs.AllGroups.{IsOwn, at_group, with_group}
use Rattle.register_file.specs.Layout.{registers_of}
use Rattle.register_file.specs.Mailbox.{cause_set}
use Rattle.register_file.proofs.Raising.{cause_alone, cause_changed}
use Rattle.register_file.proofs.register_file.RegisterFile.set_cause.Goals as goal

pub returns : goal.returns
returns c =
    let a = c.self.inside in
    let g = c.args.group in
    let own = subst (λ i. IsOwn g i) c.of-own.ensures.value c.of-own.ensures.own in
    ap (λ gs. registers_of (record a { groups = gs })) c.raise.ensures
    ∙ ap (λ s. registers_of (record a { groups = with_group a.groups g s }))
    (cause_alone (at_group a.groups g) g c.args.bits own (omega arith) c.requires.bits)
    ∙ cause_changed a g c.args.bits c.requires.there c.of-own.ensures.all
    ∙ ap (λ r. cause_set r g c.args.bits) c.self.view_is
