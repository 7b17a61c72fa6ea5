use Rattle.std.proofs.Common.{◌≡◌, ◌<◌, get_or, ap, sym, ◌∙◌, subst, length}
use Rattle.std.proofs.lemmas.List.{get_or_default}
use Rattle.intr_unit.specs.Interrupts.{reset_of}
use Rattle.intr_unit.specs.declared.group.Group.TheVariants.{Vf}
use Rattle.register_file.specs.AllGroups.{IsOwn}
use Rattle.register_file.specs.Groups.{index_of}
use Rattle.register_file.proofs.groups.Groups.of.Goals as goal

pub returns-in-Pf-clause-own : goal.returns-in-Pf-clause-own
returns-in-Pf-clause-own c = subst (λ g. IsOwn g c.self.inside.pf) (c.self.invariant.pf ∙ sym c.in-Pf.is)
    c.has_own_words.ensures

pub returns-in-Pf-clause-all : goal.returns-in-Pf-clause-all
returns-in-Pf-clause-all c = ap (λ s. length s.vf) (sym c.self.view_is) ∙ c.self.invariant.all

pub returns-in-Vf-clause-own : goal.returns-in-Vf-clause-own
returns-in-Vf-clause-own c =
    let vf = c.self.inside.vf in
    let v = c.in-Vf.v in
    let one = c.index-self-from.result in
    let small : v < 64 = subst (λ g. index_of g < 64) c.in-Vf.is c.requires in
    let there : v < length vf = subst (λ n. v < n) (sym c.self.invariant.all) small in
    let same : get_or vf c.from.result one ≡ get_or vf v (reset_of (Vf v)) = ap (λ n. get_or vf n one) c.from.ensures
    ∙ get_or_default vf v one (reset_of (Vf v)) there in
    subst (λ g. IsOwn g (get_or vf c.from.result one))
    (ap (λ s. s.group) same ∙ c.self.invariant.vf v small ∙ sym c.in-Vf.is) c.has_own_words-in-Vf.ensures

pub returns-in-Vf-clause-all : goal.returns-in-Vf-clause-all
returns-in-Vf-clause-all c = ap (λ s. length s.vf) (sym c.self.view_is) ∙ c.self.invariant.all
