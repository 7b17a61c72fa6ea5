use Rattle.std.proofs.Common.{◌≡◌, ◌*◌, length, ap, ◌∙◌, arith}
use Rattle.rss_hash.specs.Registers.{bytes_of_registers}
use Rattle.rss_hash.specs.Toeplitz.{toeplitz_hash}
use Rattle.rss_hash.proofs.Joining.{byte_joined}
use Rattle.rss_hash.proofs.Windows.{hash_below}
use Rattle.rss_hash.proofs.hash_key.HashKey.hash.Goals as goal

pub loop-i-preserved : goal.loop-i-preserved
loop-i-preserved c =
    let shares = c.shares-high_share in
    byte_joined c.self.inside.tables c.self.inside.words c.args.input.now c.loop-i.i c.loop-i.high c.loop-i.low
    shares.result.0 shares.result.1 c.self.invariant.windows (omega arith) (omega arith) shares.ensures.high
    shares.ensures.low c.loop-i.invariant

pub returns : goal.returns
unfolding toeplitz_hash
returns c =
    let all : 8 * c.loop-i.i ≡ 8 * length c.args.input.now = omega arith in
    c.loop-i.invariant
    ∙ ap (hash_below (bytes_of_registers c.self.inside.words) c.args.input.now) all
    ∙ ap (λ words. toeplitz_hash (bytes_of_registers words) c.args.input.now) c.self.view_is
