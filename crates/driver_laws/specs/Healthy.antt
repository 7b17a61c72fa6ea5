-- Over a history that leaves the driver's queue alone, the replies to the driver's calls are those of a healthy queue.
use Rattle.std.specs.Prelude.{[], ⊤, ◌∷◌, IsTrue, List}
use Rattle.pmd_driver.specs.Apart.{is_healthy}
use Rattle.driver_laws.specs.StartPrelude.{AllLendApart, Blocks, Call, Doer, Entry, Halves, OnlyLent, State, Watched}
use Rattle.driver_laws.specs.StartPrelude.{after_call, calls_of, either, leads_to}
use Rattle.driver_laws.specs.{Before.AreShort, Before.OnlyPassLends, Histories.IsDriven}
use Rattle.pmd_driver.specs.PmdRx.Keeping as received
use Rattle.pmd_driver.specs.PmdTx.Sending as sending

-- The reply to a call is one of a healthy queue.
abbrev pub IsHealthy : Halves → Doer → Call → Type 0
IsHealthy h d n = IsTrue (is_healthy h d n)

-- The replies to all of these calls are healthy.
abbrev pub AreHealthy : Halves → List Doer → List Call → Type 0
AreHealthy h [] calls = ⊤
AreHealthy h (d ∷ doers) [] = ⊤
AreHealthy h (d ∷ doers) (n ∷ calls) = IsHealthy h d n × AreHealthy (after_call h d n) doers calls

-- The blocks that either half has lent.
abbrev pub lent_by : Halves → Blocks
lent_by h = either (received.has_lent h.receive) (sending.has_lent h.transmit)

-- A history that drives the halves, and in which no other pass tries to lend a block of `own` after the first entries
-- (`start`). At the end of these first entries, the frames that wait for the queue fit the blocks that the driver takes
-- for a packet. So do all frames that the device accepts. At that point, only the blocks of `own` that the halves have
-- lent are lent.
pub record IsUnshared (w : Watched) (origin : State) (start rest : List Entry) (h : Halves) (doers : List Doer)
    (own : Blocks) : Type 0 where
  pub driven : IsDriven w origin start rest h doers
  pub short : AreShort w.queue h.receive.layout.most (leads_to origin start)
  pub known : OnlyLent own (lent_by h) (leads_to origin start).memory
  pub others : OnlyPassLends w.pass own rest

-- Suppose that the halves lend only blocks of `own`, and neither lends a block that the other half has lent, as the
-- clause `drives` of a driver's calls says. Then each call made by either half gets a healthy reply.
abbrev pub OwnRepliesAreHealthy : Type 0
OwnRepliesAreHealthy =
    (w : Watched) (origin : State) (start rest : List Entry) (h : Halves) (doers : List Doer) (own : Blocks) →
    IsUnshared w origin start rest h doers own → AllLendApart own h doers (calls_of w.pass rest) →
    AreHealthy h doers (calls_of w.pass rest)
