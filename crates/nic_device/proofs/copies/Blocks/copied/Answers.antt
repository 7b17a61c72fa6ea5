use Rattle.std.proofs.Common.{◌≡◌, List, ℕ, ap, sym, subst, ◌∙◌, arith, ◌-◌}
use Rattle.nic_device.specs.Blocks.{memory_of, AreRising}
use Rattle.nic_device.proofs.BlockCopies.{IsFrom, from_all, from_past, from_some, rising_more}
use Rattle.nic_device.proofs.copies.Blocks.copied.Goals as goal

pub each-init : goal.each-init
each-init c =
    let none = sym c.new-copies.ensures.items in record {
      from = subst (λ (es : List (ℕ × List ℕ)). IsFrom c.args.memory.now (memory_of es) c.end-number.result) none
          (from_past c.args.memory.now c.end-number.result c.end-number.ensures.above);
      rising = subst AreRising none tt;
    }

pub each-preserved-in-Continue-branch-3 : goal.each-preserved-in-Continue-branch-3
each-preserved-in-Continue-branch-3 c =
    let more = sym c.in_ok-push_front.ensures.items in
    let there = sym c.in_ok-bytes.ensures ∙ c.in-Some.is in record {
      from = subst (λ (es : List (ℕ × List ℕ)). IsFrom c.args.memory.now (memory_of es) (c.each.number - 1)) more
          (from_some c.args.memory.now (memory_of c.each.copies.items) c.each.number c.in-Some.bytes (omega arith)
          c.each.invariant.from there);
      rising = subst AreRising more
          (rising_more c.args.memory.now c.each.copies.items c.each.number c.in-Some.bytes (omega arith)
          c.each.invariant.from c.each.invariant.rising);
    }

pub returns : goal.returns
returns c =
    let none : c.each.number ≡ 0 = omega arith in
    let from = subst (λ (n : ℕ). IsFrom c.args.memory.now (memory_of c.each.copies.items) n) none c.each.invariant.from
    in
    ap memory_of c.into_vec.ensures.items ∙ from_all c.args.memory.now (memory_of c.each.copies.items) from
