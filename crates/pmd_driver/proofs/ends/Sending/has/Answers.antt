use Rattle.std.proofs.Common.{◌≡◌, ◌<◌, ◌++◌, true, sym, subst, ◌∙◌}
use Rattle.pmd_access.specs.NicDevice.DmaArena.Whereabouts.{times_in_hand}
use Rattle.pmd_tx.specs.Leaving as transmit
use Rattle.pmd_driver.specs.Ends.{sent_way, waiting_of}
use Rattle.pmd_driver.specs.declared.ends.Sending.{Sending}
use Rattle.pmd_driver.proofs.HaltedBlocks.{counted}
use Rattle.pmd_driver.proofs.Kept.{keeps_is}
use Rattle.pmd_driver.proofs.ends.Sending.has.Goals as goal

pub returns-in-Ring : goal.returns-in-Ring
returns-in-Ring c =
    subst (λ (s : Sending).
    (c.keeps.result ≡ true → 0 < times_in_hand ((sent_way s).lent ++ waiting_of s) c.args.block)
    × (0 < times_in_hand ((sent_way s).lent ++ waiting_of s) c.args.block → c.keeps.result ≡ true)) (sym c.in-Ring.is)
    (counted c.keeps.result
    (times_in_hand (transmit.lent_of c.in-Ring.ring ++ transmit.waiting_of c.in-Ring.ring) c.args.block)
    (c.keeps.ensures ∙ keeps_is c.in-Ring.ring c.args.block))
