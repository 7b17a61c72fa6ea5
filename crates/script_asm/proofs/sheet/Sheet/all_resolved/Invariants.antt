use Rattle.std.proofs.Common.{◌≡◌, [], drop}
use Rattle.script_asm.specs.Resolved.{with_resolved}
use Rattle.script_asm.proofs.sheet.Sheet.all_resolved.Given as goal

-- The instructions resolved so far, followed by the remaining instructions, are all instructions.
abbrev pub invariant-loop-draft : goal.invariant-loop-draft
invariant-loop-draft l = with_resolved l.self l.instructions.items (drop l.draft-index l.drafts)
    ≡ with_resolved l.self [] l.drafts
