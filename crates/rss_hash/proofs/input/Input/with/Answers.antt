use Rattle.std.proofs.Common.{◌+◌, ◌≤◌, ◌++◌, length, ap, ◌∙◌, arith}
use Rattle.std.proofs.lemmas.List.{length-append}
use Rattle.rss_hash.specs.Input.{bytes_of}
use Rattle.rss_hash.proofs.Filling.{length-bytes_of, put_mid-filled, IsFilled-padded, bytes_of-padded}
use Rattle.rss_hash.proofs.input.Input.with.Goals as goal

pub invariant_of-self : goal.invariant_of-self
invariant_of-self c =
    let inside = c.self.inside in
    let more = c.args.more.now in
    let long = length-bytes_of inside c.self.invariant in
    let joined = length-append (bytes_of inside) more in
    let fits : length (bytes_of inside) + length more ≤ 36 = rw c.self.view_is c.requires in
    IsFilled-padded (bytes_of inside ++ more) _ _ (omega arith)
    (put_mid-filled inside more _ _ c.self.invariant c.copy_from_slice.ensures.after (omega arith)) (omega arith)

pub returns : goal.returns
returns c =
    let inside = c.self.inside in
    let more = c.args.more.now in
    let long = length-bytes_of inside c.self.invariant in
    let joined = length-append (bytes_of inside) more in
    bytes_of-padded (bytes_of inside ++ more) _ _
    (put_mid-filled inside more _ _ c.self.invariant c.copy_from_slice.ensures.after (omega arith)) (omega arith)
    ∙ ap (λ bytes. bytes ++ more) c.self.view_is
