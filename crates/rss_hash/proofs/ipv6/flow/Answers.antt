use Rattle.std.proofs.Common.{arith}
use Rattle.std.proofs.lemmas.Grind.{common_steps}
use Rattle.rss_hash.specs.Flow.{ipv6_flow}
use Rattle.rss_hash.proofs.Parts.{joined_parts}
use Rattle.rss_hash.proofs.ipv6.flow.Goals as goal
use Rattle.rss_hash.proofs.ipv6.flow.Goals.{then-tcp, then-tcp-via-then-tcp, then-tcp-via-else-tcp+then-udp, else-tcp+else-udp}

pub returns : goal.returns
unfolding ipv6_flow
returns c =
    let packet = c.args.packet.now in
    let addresses = joined_parts packet 8 24 40 (omega arith) (omega arith) in
    let ports = joined_parts packet 40 42 44 (omega arith) (omega arith) in
    elim c.if-tcp.branch [
      | then-tcp w ↦ elim w.then-tcp.branch [
        | then-tcp-via-then-tcp w' ↦ grind (arith, common_steps)
        | then-tcp-via-else-tcp+then-udp w' ↦ grind (arith, common_steps)
      ]
      | else-tcp+else-udp w ↦ grind (arith, common_steps)
    ]
