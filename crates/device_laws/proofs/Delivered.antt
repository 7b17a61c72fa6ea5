-- Pieces that a driver reads back, and a device with disabled bus mastering.
use Rattle.std.proofs.Common.{cond, ◌≡◌, ℕ, ◌<◌, ◌≤◌, ◌^◌, Bool, true, false, List, [], ◌∷◌, take, drop, refl, ap, sym, ◌∙◌, subst, nat_eq, arith}
use Rattle.std.specs.Prelude.{⊤}
use Rattle.nic_device.specs.DmaRing.Receive.{reported_of}
use Rattle.nic_device.specs.DmaRing.declared.receive.Packet.{Packet}
use Rattle.nic_device.proofs.RxRing.Fills.{driver_reads}
use Rattle.nic_device.specs.Receive.{received, first_received, packet_of}
use Rattle.nic_device.specs.Sound.{AreWaiting, IsSound, IsWaiting}
use Rattle.device_laws.specs.Prelude.{AreApart, Block, Idle, Memory, Reply, State, Waiting, Wrote, gives, read_at}
use Rattle.device_laws.specs.Prelude.{step_of}
use Rattle.device_laws.proofs.Prelude.{eq-eqb, lt-ltb, received_cases}
use Rattle.device_laws.specs.Laws.{piece_of, piece_on, PieceIsReadBack, StoppedDeviceIsIdle}
use Rattle.nic_device.proofs.Hashes.{type-lt}

-- The word that descriptors report about a frame in the receive list fits into 64 bits.
cond-le : (b : Bool) (n : ℕ) → cond b n 0 ≤ n
cond-le true n = omega arith
cond-le false n = omega arith

reported_of-lt : (p : Packet) → p.hash < 2 ^ 32 → p.rss < 16 → reported_of p < 2 ^ 64
reported_of-lt p hash rss =
    omega (arith, cond-le p.ipv4 (2 ^ 4), cond-le p.ipv6 (2 ^ 6), cond-le p.tcp (2 ^ 8), cond-le p.udp (2 ^ 9))

pub reported-lt : (w : Waiting) → IsWaiting w → reported_of (packet_of w) < 2 ^ 64
reported-lt w h = reported_of-lt (packet_of w) h.hash (type-lt w.rss h.rss)

-- Memory contains the piece that a reply reports.
abbrev HasPiece : List Waiting → Memory → Reply Block → Type 0
HasPiece waiting m (Wrote queue slot end desc at len) = AreApart at len desc 16 → read_at m at len
    ≡ piece_on queue waiting (Wrote queue slot end desc at len)
HasPiece waiting m other = ⊤

same_queue : (n : ℕ) → nat_eq n n ≡ true
same_queue n = eq-eqb n n refl

piece_written : (waiting : List Waiting) (w : Waiting) (others : List Waiting) (slot : ℕ) (end : Bool) (desc at len : ℕ)
    → waiting ≡ w ∷ others
    → take len (drop w.offset w.frame) ≡ piece_on w.queue waiting (Wrote w.queue slot end desc at len)
piece_written waiting w others slot end desc at len e =
    ap (λ ws. piece_of ws len) (sym e) ∙ ap (λ b. cond b (piece_of waiting len) []) (sym (same_queue w.queue))

received_piece : (s : State) → IsSound s
    → HasPiece s.waiting (received s).state.memory (received s).reply
received_piece s h = received_cases (λ o. HasPiece s.waiting o.state.memory o.reply) s (record {
  idle = tt;
  dropped = λ w others e why. tt;
  slotless = λ w others e. tt;
  fault = λ w others e fault. tt;
  filled = λ w others e f is apart.
      (driver_reads _ _ _ _ f h.blocks.whole (reported-lt w (subst AreWaiting e h.waiting).0) is).bytes apart
      ∙ piece_written s.waiting w others f.slot f.end f.desc f.at f.len e;
})

pub read_back : PieceIsReadBack
unfolding step_of
read_back s h queue slot end desc at len reported apart =
    subst (HasPiece s.waiting (received s).state.memory) reported (received_piece s h) apart
    ∙ ap (piece_on queue s.waiting) (sym reported)

pub stopped_idle : StoppedDeviceIsIdle
unfolding step_of
stopped_idle s stopped = record {
  receive = ap (λ b. cond b (gives Idle s) (first_received s s.waiting)) stopped;
  transmit = λ queue small. rw (lt-ltb queue 128 small, stopped) refl;
  interrupt = λ g there. rw (there, stopped) refl;
  switch = λ dir queue small. rw (lt-ltb queue 128 small, stopped) refl;
  eeprom = rw stopped refl;
}
