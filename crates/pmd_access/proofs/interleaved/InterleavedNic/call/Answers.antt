use Rattle.std.proofs.Common.{refl, ap, ◌∙◌}
use Rattle.pmd_access.specs.Scheduled.{Scheduled, made_of}
use Rattle.pmd_access.proofs.Making.{none_added, own_adds, own_refused}
use Rattle.pmd_access.proofs.Refusals.{memory_refuses}
use Rattle.pmd_access.proofs.interleaved.InterleavedNic.call.Goals as goal

pub returns-in-Err-clause-refused : goal.returns-in-Err-clause-refused
returns-in-Err-clause-refused c =
    (refl, none_added c.args.self.now.handled c.make_next_list.new.self.handled c.make_next_list.ensures.none)

pub returns-in-Ok-clause-made : goal.returns-in-Ok-clause-made
returns-in-Ok-clause-made c =
    own_adds c.args.event c.make.result c.args.self.now.handled c.self.inside.handled c.make.new.self
    (ap (λ (s : Scheduled). made_of s.handled) c.self.view_is ∙ c.make_next_list.ensures.none) c.make.ensures.own

pub returns-in-Ok-clause-refused : goal.returns-in-Ok-clause-refused
returns-in-Ok-clause-refused c =
    own_refused c.args.event c.make.result c.args.self.now.handled c.self.inside.handled c.make.new.self
    (ap (λ (s : Scheduled). made_of s.handled) c.self.view_is ∙ c.make_next_list.ensures.none) c.make.ensures.back
    c.make.ensures.unchanged

pub returns-in-Ok-clause-refusal : goal.returns-in-Ok-clause-refusal
returns-in-Ok-clause-refusal c = memory_refuses c.args.event c.make.result _ c.make.ensures.back
