-- A transmit step is idle if the queue's pool may not transmit.
use Rattle.std.proofs.Common.{◌≡◌, true, cond, not, ◌||◌, ap, ◌∙◌}
use Rattle.std.proofs.lemmas.Bool.{and_from, or_left, or_right, lt-ltb}
use Rattle.nic_device.specs.RegisterFile.Settings.{is_stopped, can_transmit}
use Rattle.nic_device.specs.Transmit.{is_muted, is_muted_pool, queue_sent, slot_fetched}
use Rattle.device_laws.specs.Prelude.{Idle, NoQueue, gives, is_empty, step_of, transmit_queue_of}
use Rattle.device_laws.specs.Muting.{MutedQueueIsIdle}

pub muted_idle : MutedQueueIsIdle
unfolding step_of is_muted
muted_idle s uses queue pool small has off =
    let q = transmit_queue_of s.registers queue in
    let muted : is_muted s.registers queue ≡ true =
    and_from _ _ uses (ap (is_muted_pool s.registers) has ∙ ap not off) in
    let stays_off = is_stopped s.registers || not s.link || not (can_transmit s.registers) || not q.on in
    ap (λ b. cond b (queue_sent s queue q) (gives NoQueue s)) (lt-ltb queue 128 small)
    ∙ ap (λ b. cond b (gives Idle s) (slot_fetched s queue q))
    (or_left (stays_off || is_muted s.registers queue) (is_empty q.ring)
    (or_right stays_off (is_muted s.registers queue) muted))
