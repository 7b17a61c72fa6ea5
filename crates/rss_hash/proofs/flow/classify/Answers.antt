use Rattle.std.proofs.Common.{◌∙◌, sym, rules}
use Rattle.rss_hash.specs.Flow.{flow_of}
use Rattle.rss_hash.proofs.Packets.{flow_of_short}
use Rattle.rss_hash.proofs.flow.classify.Goals as goal

pub returns-then-frame-lt-ETHERNET_HEADER : goal.returns-then-frame-lt-ETHERNET_HEADER
returns-then-frame-lt-ETHERNET_HEADER c =
    c.other.ensures ∙ sym (flow_of_short c.args.frame.now c.if-frame-lt-ETHERNET_HEADER.true)

pub returns-in-2048 : goal.returns-in-2048
unfolding flow_of
returns-in-2048 c = search rules

pub returns-in-34525 : goal.returns-in-34525
unfolding flow_of
returns-in-34525 c = search rules

pub returns-in_default : goal.returns-in_default
unfolding flow_of
returns-in_default c = search rules
