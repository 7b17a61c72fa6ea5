-- A frame that is shorter than its header has no packet.
use Rattle.std.proofs.Common.{◌≡◌, ℕ, ◌<◌, ◌==◌, ◌&&◌, Bool, true, false, cond, List, [], drop, length, refl, arith}
use Rattle.std.proofs.lemmas.List.{drop_all}
use Rattle.rss_hash.specs.Frame.{ether_type}
use Rattle.rss_hash.specs.Ipv4.{is_ipv4}
use Rattle.rss_hash.specs.Ipv6.{is_ipv6}
use Rattle.rss_hash.specs.Flow.{flow_of, ipv4_flow, ipv6_flow, no_flow}
use Rattle.rss_hash.specs.declared.flow.Flow.{Flow}

neither : (a b : Bool) (x y z : Flow) → cond (a && false) x (cond (b && false) y z) ≡ z
neither true true x y z = refl
neither true false x y z = refl
neither false true x y z = refl
neither false false x y z = refl

pub flow_of_short : (frame : List ℕ) → length frame < 14 → flow_of frame ≡ no_flow
unfolding flow_of is_ipv4 is_ipv6
flow_of_short frame short =
    let none : drop 14 frame ≡ [] = drop_all 14 frame (omega arith) in
    rw none (neither (ether_type frame == 0x0800) (ether_type frame == 0x86DD) (ipv4_flow []) (ipv6_flow []) no_flow)
