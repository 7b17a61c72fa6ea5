use Rattle.std.proofs.Common.{◌-◌, arith}
use Rattle.nic_device.proofs.Trimmed.{kept-none, kept-last}
use Rattle.nic_device.proofs.notes_trimming.kept_before.Goals as goal

pub returns-else-bytes-end-eq0 : goal.returns-else-bytes-end-eq0
returns-else-bytes-end-eq0 c =
    let end = c.loop-end.end in
    let some = c.loop-end-test.true in
    let zeros = c.loop-end.invariant.1 in
    let all =
    kept-last c.args.bytes.now (end - 1) (λ k h. zeros k (omega (arith, some))) c.if-bytes-end-eq0.false
    in
    omega (arith, all, some)

pub returns-after-loop-end : goal.returns-after-loop-end
returns-after-loop-end c =
    let none = c.loop-end-test.false in
    let all = kept-none c.args.bytes.now (λ k. c.loop-end.invariant.1 k (omega (arith, none))) in
    omega (arith, all, none)
