use Rattle.std.proofs.Common.{ap, ◌∙◌, subst, arith}
use Rattle.register_file.specs.AllGroups.{IsOwn, at_group, with_group}
use Rattle.register_file.specs.Groups.{auto_mask_row, index_of}
use Rattle.register_file.specs.Layout.{registers_of}
use Rattle.register_file.specs.Registers.{with_word}
use Rattle.register_file.proofs.Own.{whole_word}
use Rattle.register_file.proofs.InPlace.{auto_mask_changed}
use Rattle.register_file.proofs.register_file.RegisterFile.set_auto_mask.Goals as goal

pub returns : goal.returns
returns c =
    let a = c.self.inside in
    let g = c.args.group in
    let one = at_group a.groups g in
    let own = subst (λ i. IsOwn g i) c.of-own.ensures.value c.of-own.ensures.own in
    let whole = whole_word one g c.args.word own.of_group (omega arith) c.requires.bits in
    ap (λ gs. registers_of (record a { groups = gs })) c.set_auto_mask.ensures
    ∙ ap (λ w. registers_of (record a { groups = with_group a.groups g (record one { auto_mask = w }) })) whole
    ∙ auto_mask_changed a g c.args.word
    ∙ ap (λ r. with_word r (auto_mask_row g) (index_of g) c.args.word) c.self.view_is
