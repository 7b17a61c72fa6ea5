use Rattle.std.proofs.Common.{◌≡◌, ◌<◌, ◌*◌, ◌^◌, ◌%◌, ap, ◌∙◌}
use Rattle.std.specs.Prelude.{bit_or}
use Rattle.std.proofs.Math.Nat.{mod-eq_of_lt, one-mul}
use Rattle.std.proofs.Math.Pow.{pow-lt}
use Rattle.register_file.proofs.SingleBits.{or_pow}
use Rattle.register_file.proofs.bits.bit_set.Goals as goal

pub returns : goal.returns
returns c =
    let small : 2 ^ c.args.bit < 2 ^ 32 = pow-lt c.requires in
    let power : 1 * 2 ^ c.args.bit % 2 ^ 32 ≡ 2 ^ c.args.bit =
    ap (λ n. n % 2 ^ 32) (one-mul (2 ^ c.args.bit)) ∙ mod-eq_of_lt small in
    ap (bit_or c.args.word) power ∙ or_pow c.args.word c.args.bit
