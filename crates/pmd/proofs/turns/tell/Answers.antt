use Rattle.std.proofs.Common.{◌≡◌, ℕ, [], ◌∷◌, ◌++◌, length, length-take, ap, ◌∙◌, arith}
use Rattle.rtrb.specs.Ring.{sent}
use Rattle.pmd_driver.specs.PmdAccess.Bufs.{bytes_of}
use Rattle.pmd_driver.specs.PmdAccess.Packet.{kept_of}
use Rattle.pmd_driver.proofs.PmdTx.Starting.{length-blocks}
use Rattle.pmd.specs.declared.reports.Report.{Report}
use Rattle.pmd.proofs.turns.tell.Goals as goal

-- The number of bytes in a packet is the smaller of its stated length and the capacity of its blocks.
pub returns-clause-sent : goal.returns-clause-sent
returns-clause-sent c =
    let p = c.args.packet.now in
    let report : ℕ → Report = λ n. record { queue = c.args.queue; number = c.args.number; len = n; hash = p.hash } in
    let len : c.min-len.result ≡ length (kept_of p).bytes =
    omega (
      arith,
      length-take p.len (bytes_of p.bufs),
      length-blocks p.bufs c.bytes_in.ensures.whole,
    ) in
    c.push_reserved.ensures.sent.0 ∙ ap (λ (n : ℕ). sent c.args.producer.now ++ report n ∷ []) len
