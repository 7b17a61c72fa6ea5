-- Lemmas about the first enabled type of a flow, for each IP version.
use Rattle.std.proofs.Common.{◌≡◌, ◌≢◌, ℕ, ◌==◌, ◌&&◌, Bool, true, false, cond, Some, None, unwrap_or, refl, arith}
use Rattle.std.proofs.lemmas.Bool.Decides.{nat_tests}
use Rattle.rss_hash.specs.Mrqc.{enables}
use Rattle.rss_hash.specs.Choice.{first_enabled}
use Rattle.rss_hash.specs.declared.flow.Flow.{Flow}
use Rattle.rss_hash.specs.declared.choice.RssType.{RssType}
use Rattle.rss_hash.specs.declared.choice.RssType.TheVariants.{NoHash, TcpIpv4, Ipv4, TcpIpv6, Ipv6, UdpIpv4, UdpIpv6}

first_of_three : (a b c : Bool) (x y z none : RssType)
    → unwrap_or (cond a (Some x) (cond b (Some y) (cond c (Some z) None))) none ≡ cond a x (cond b y (cond c z none))
first_of_three true b c x y z none = refl
first_of_three false true c x y z none = refl
first_of_three false false true x y z none = refl
first_of_three false false false x y z none = refl

pub ipv4_types : (mrqc : ℕ) (flow : Flow) → flow.version ≡ 4
    → first_enabled mrqc flow
    ≡ cond (flow.tcp && enables mrqc 16) TcpIpv4
    (cond (flow.udp && enables mrqc 22) UdpIpv4 (cond (enables mrqc 17) Ipv4 NoHash))
unfolding first_enabled
ipv4_types mrqc flow is_four =
    rw is_four (first_of_three (flow.tcp && enables mrqc 16) (flow.udp && enables mrqc 22) (enables mrqc 17) TcpIpv4
    UdpIpv4 Ipv4 NoHash)

pub ipv6_types : (mrqc : ℕ) (flow : Flow) → flow.version ≡ 6
    → first_enabled mrqc flow
    ≡ cond (flow.tcp && enables mrqc 21) TcpIpv6
    (cond (flow.udp && enables mrqc 23) UdpIpv6 (cond (enables mrqc 20) Ipv6 NoHash))
unfolding first_enabled
ipv6_types mrqc flow is_six =
    rw is_six (first_of_three (flow.tcp && enables mrqc 21) (flow.udp && enables mrqc 23) (enables mrqc 20) TcpIpv6
    UdpIpv6 Ipv6 NoHash)

pub no_types : (mrqc : ℕ) (flow : Flow) → flow.version ≢ 4 → flow.version ≢ 6 → first_enabled mrqc flow ≡ NoHash
unfolding first_enabled
no_types mrqc flow not_four not_six =
    let four : (flow.version == 4) ≡ false = grind (arith, nat_tests) in
    let six : (flow.version == 6) ≡ false = grind (arith, nat_tests) in
    rw (four, six) refl
