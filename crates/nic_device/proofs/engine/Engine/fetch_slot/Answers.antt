use Rattle.std.proofs.Common.{rules, ◌≡◌, ◌<◌, ap, ◌∙◌, sym, [], get_or}
use Rattle.std.specs.Prelude.{Err}
use Rattle.std.proofs.lemmas.List.{get_or_read_under}
use Rattle.register_file.specs.Queue.{ring_of}
use Rattle.rx_ring.specs.DmaRing.declared.dir.Dir.TheVariants.{Tx}
use Rattle.register_laws.specs.Sides.{transmit_queue_of}
use Rattle.nic_device.specs.Interrupt.{side_failed}
use Rattle.nic_device.specs.State.{State}
use Rattle.nic_device.specs.Transmit.{staged_by, sending_of}
use Rattle.nic_device.proofs.Fetches.{slot_fetched-fault}
use Rattle.nic_device.proofs.Staging.{set-again}
use Rattle.nic_device.proofs.engine.Engine.fetch_slot.Goals as goal

pub returns-in-Err-Fault : goal.returns-in-Err-Fault
returns-in-Err-Fault c =
    let s = c.args.self.now in
    let queue = c.args.queue in
    let q = transmit_queue_of s.registers queue in
    let view = c.self.view_is in
    let memory = ap (λ (t : State). t.memory) view in
    let registers = ap (λ (t : State). t.registers) view in
    let ring : c.ring-ring.result ≡ q.ring =
    c.ring-ring.ensures.ring ∙ ap (λ r. ring_of r Tx queue) (c.deref.ensures ∙ registers) in
    let sending = c.sending-sending.ensures ∙ ap (λ r. sending_of r (transmit_queue_of r queue)) registers in
    let small : c.from.result < 128 = rw c.from.ensures c.requires.small in
    let items = c.self.inside.staged.items in
    let read = get_or_read_under items c.from.result 128 c.index_mut-staged.result.now []
    c.index_mut-staged.ensures.value small (sym c.self.invariant) in
    let by : c.index_mut-staged.result.now ≡ staged_by s queue =
    read ∙ ap (λ i. get_or items i []) c.from.ensures ∙ ap (λ (t : State). get_or t.staged queue []) view in
    let reported = (c.in-Err-Fault.ensures.fault c.in-Err-Fault.fault).0 (ap Err c.in-Err-Fault.field-0-is) in
    let met = slot_fetched-fault s queue q c.in-Err-Fault.fault _ _ _ _ reported memory ring sending by in
    let failed = c.fail_side.ensures
    ∙ ap (λ r. side_failed r Tx queue) (c.deref_mut-in-Err-Fault.ensures.value ∙ registers) in
    let cleared = set-again items s.staged c.from.result c.from-in-Err-Fault.result queue c.fetch.new.staged
    c.clear.new.self c.from.ensures c.from-in-Err-Fault.ensures c.clear.ensures (ap (λ (t : State). t.staged) view) in
    let kept = c.in-Err-Fault.ensures.memory_kept ∙ memory in
    let out = c.reserve.ensures.items ∙ ap (λ (t : State). t.out) view in
    record {
      reply = sym (ap (λ o. o.reply) met);
      state = (λ k. record {
        registers = failed k;
        memory = kept k;
        waiting = (view k).waiting;
        staged = cleared k;
        out = out k;
        link = (view k).link;
        image = (view k).image;
        vfs = (view k).vfs;
        fifo = (view k).fifo;
      }) ∙ sym (ap (λ o. o.state) met);
      back = search rules;
      unchanged = search rules;
    }
