use Rattle.std.proofs.Common.{◌≡◌, refl, sym, ◌∙◌, ap}
use Rattle.pmd_access.specs.declared.packet.Packet.{Packet}
use Rattle.pmd_tx.specs.Sends.{gate_of, returned, IsAnswer, IsShut}
use Rattle.pmd_driver.specs.Running.{Running, receives}
use Rattle.pmd_driver.proofs.Driving.{err_later}
use Rattle.pmd_driver.proofs.Sending.{home_owns, shut_home}
use Rattle.pmd_driver.proofs.Sent.{sent_drives, sent_finds}
use Rattle.pmd_driver.proofs.SentCounted.{sent_up_kept}
use Rattle.pmd_driver.proofs.running.Running.tx.Goals as goal

pub invariant_of-self : goal.invariant_of-self
invariant_of-self g c =
    let q : Running = record {
      arena = c.self.inside.arena;
      receive = c.self.inside.receive;
      transmit = c.self.inside.transmit;
    } in
    let s : Running = record q { arena = c.send.new.arena; transmit = c.send.new.self } in
    let p : Packet = c.args.packet in
    let is : c.receives-elsewhere.result ≡ receives q p =
    c.receives-elsewhere.ensures ∙ ap (λ (x : Running). receives x p) (sym c.self.view_is) in
    let e = c.send.ensures in
    let answer : IsAnswer (gate_of q.transmit q.arena (receives q p) p) p c.send.result = rw (← is) e.answer in
    (sent_up_kept q s p c.send.result answer c.bytes_in-whole.ensures.whole e.accepted e.kept e.home e.back
    e.layout refl c.self.invariant).0

pub returns : goal.returns
returns g c =
    let q : Running = record {
      arena = c.self.inside.arena;
      receive = c.self.inside.receive;
      transmit = c.self.inside.transmit;
    } in
    let s : Running = record q { arena = c.send.new.arena; transmit = c.send.new.self } in
    let p : Packet = c.args.packet in
    let is : c.receives-elsewhere.result ≡ receives q p =
    c.receives-elsewhere.ensures ∙ ap (λ (x : Running). receives x p) (sym c.self.view_is) in
    let old = g.N.Nic.made c.args.nic.now in
    let new = g.N.Nic.made c.send.new.nic in
    let e = c.send.ensures in
    let answer : IsAnswer (gate_of q.transmit q.arena (receives q p) p) p c.send.result = rw (← is) e.answer in
    let owns = home_owns (returned c.send.result) p q.arena s.arena e.home in
    let shut : IsShut (gate_of q.transmit q.arena (receives q p) p) → (new ≡ old) × (s ≡ q) =
    λ way.
    let by : IsShut (gate_of q.transmit q.arena (receives q p) p) → (new ≡ old) × (c.send.new.self ≡ q.transmit) =
    rw (← is) e.shut in
    let still = by way in
    let arena = shut_home q.transmit q.arena (receives q p) p c.send.result s.arena answer way e.home in
    (still.0, λ i. record q { arena = arena i; transmit = still.1 i }) in
    rw (← c.self.view_is) (record {
      drives = sent_drives old new q p c.send.new.self c.send.new.arena c.self.invariant shut owns e.plays;
      sent = record {
        answer = answer;
        full = e.full;
        shut = shut;
        accepted = e.accepted;
        kept = e.kept;
        back = e.back;
        home = e.home;
        settled = e.settled;
        faults = e.faults;
        finds = err_later c.send.result
            (λ failed faults.
            sent_finds old new q p c.send.new.self c.send.new.arena c.self.invariant shut owns failed.fault faults)
            e.faults;
        layout = e.layout;
        receive = refl;
      };
      blocks = (sent_up_kept q s p c.send.result answer c.bytes_in-whole.ensures.whole e.accepted e.kept e.home e.back
          e.layout refl c.self.invariant).1;
      began = e.began;
      refuses = e.refuses;
      refusal = e.refusal;
    })
