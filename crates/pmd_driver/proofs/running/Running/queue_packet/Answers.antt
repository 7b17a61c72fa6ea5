use Rattle.std.proofs.Common.{◌≡◌, refl, sym, ◌∙◌, ap}
use Rattle.pmd_access.specs.declared.packet.Packet.{Packet}
use Rattle.pmd_tx.specs.Sends.{returned}
use Rattle.pmd_driver.specs.Bursts.{IsKeptOut, MayAnswer}
use Rattle.pmd_driver.specs.Running.{Running, receives}
use Rattle.pmd_driver.proofs.First.{queues_one}
use Rattle.pmd_driver.proofs.Meeting.{sent_during}
use Rattle.pmd_driver.proofs.Queueing.{accepted_one, accepted_none, slots_taken}
use Rattle.pmd_driver.proofs.Sending.{home_owns, shut_home}
use Rattle.pmd_driver.proofs.Sent.{sent_drives}
use Rattle.pmd_driver.proofs.SentCounted.{sent_up_kept}
use Rattle.pmd_driver.proofs.running.Running.queue_packet.Goals as goal

pub invariant_of-self : goal.invariant_of-self
invariant_of-self g c =
    let q : Running = record {
      arena = c.self.inside.arena;
      receive = c.self.inside.receive;
      transmit = c.self.inside.transmit;
    } in
    let s : Running = record q { arena = c.queue.new.arena; transmit = c.queue.new.self } in
    let p : Packet = c.args.packet in
    let is : c.receives-elsewhere.result ≡ receives q p =
    c.receives-elsewhere.ensures ∙ ap (λ (x : Running). receives x p) (sym c.self.view_is) in
    let e = c.queue.ensures in
    let answer : MayAnswer q p c.queue.result = rw (← is) e.answer in
    (sent_up_kept q s p c.queue.result answer c.bytes_in-whole.ensures.whole e.accepted e.kept e.home e.back
    e.layout refl c.self.invariant).0

pub returns-clause-queues : goal.returns-clause-queues
returns-clause-queues g c =
    let q : Running = record {
      arena = c.self.inside.arena;
      receive = c.self.inside.receive;
      transmit = c.self.inside.transmit;
    } in
    let s : Running = record q { arena = c.queue.new.arena; transmit = c.queue.new.self } in
    let p : Packet = c.args.packet in
    let is : c.receives-elsewhere.result ≡ receives q p =
    c.receives-elsewhere.ensures ∙ ap (λ (x : Running). receives x p) (sym c.self.view_is) in
    let old = g.N.Nic.made c.args.nic.now in
    let new = g.N.Nic.made c.queue.new.nic in
    let e = c.queue.ensures in
    let answer : MayAnswer q p c.queue.result = rw (← is) e.answer in
    let owns = home_owns (returned c.queue.result) p q.arena s.arena e.home in
    let shut : IsKeptOut q p → (new ≡ old) × (s ≡ q) =
    λ way.
    let by : IsKeptOut q p → (new ≡ old) × (c.queue.new.self ≡ q.transmit) = rw (← is) e.shut in
    let still = by way in
    let arena = shut_home q.transmit q.arena (receives q p) p c.queue.result s.arena answer way e.home in
    (still.0, λ i. record q { arena = arena i; transmit = still.1 i }) in
    rw (← c.self.view_is) (queues_one (record {
      answer = answer;
      full = e.full;
      shut = shut;
      accepted = accepted_one q s p (returned c.queue.result) e.accepted e.home e.layout refl;
      kept = accepted_none q s p (returned c.queue.result) e.kept e.home e.layout refl;
      back = e.back;
      slots = slots_taken q p c.queue.result answer c.bytes_in-whole.ensures.whole s.transmit e.layout e.accepted;
      during = sent_during q p c.self.invariant c.queue.result old new answer e.faults;
      drives = sent_drives old new q p c.queue.new.self c.queue.new.arena c.self.invariant shut owns e.plays;
      keeps = (sent_up_kept q s p c.queue.result answer c.bytes_in-whole.ensures.whole e.accepted e.kept e.home e.back
          e.layout refl c.self.invariant).1;
      tail = e.tail;
    }))
