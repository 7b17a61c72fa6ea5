-- Lemmas about why a start and a packet are refused before any event.
use Rattle.std.proofs.Common.{◌≡◌, ◌≢◌, ℕ, ◌%◌, ◌*◌, ◌<◌, Bool, true, false, ◌&&◌, ◌||◌, inl, inr, length, Result, refl, arith}
use Rattle.std.specs.Prelude.{◌==◌, nat_le, nat_lt, not}
use Rattle.std.proofs.lemmas.Bool.{le-leb, lt-leb, lt-ltb, le-ltb, eq-eqb, ne_eqb}
use Rattle.pmd_driver.specs.PmdTx.Sending.{Sender}
use Rattle.pmd_driver.specs.PmdTx.Sends.{goes_home, is_bad_size}
use Rattle.pmd_driver.specs.PmdTx.declared.answer.TxAnswer.{TxAnswer}
use Rattle.pmd_driver.specs.PmdTx.declared.answer.TxFault.{TxFault}
use Rattle.driver_laws.specs.StartPrelude.{AtPort, Numbers, Packet, is_frame, is_size}
use Rattle.driver_laws.specs.Refusals.{FramesAre, IsBadFrame, IsBadLength, IsBadRing, IsFitting, IsGoodLength}
use Rattle.driver_laws.specs.Refusals.{PacketMeets, PacketsHaveAnOrder, StartTells, StartsHaveAnOrder}

and_none : (b c : Bool) → c ≡ false → (b && c) ≡ false
and_none true c none = none
and_none false c none = refl

or_some : (b c : Bool) → c ≡ true → (b || c) ≡ true
or_some true c some = refl
or_some false c some = some

bad_ring : (size : ℕ) → IsBadRing size → is_size size ≡ false
bad_ring size (inl small) = rw (lt-leb 8 size small) refl
bad_ring size (inr (inl large)) =
    and_none (nat_le 8 size) (nat_le size 1024 && size % 8 == 0) (rw (lt-leb size 1024 large) refl)
bad_ring size (inr (inr odd)) =
    and_none (nat_le 8 size) (nat_le size 1024 && size % 8 == 0)
    (and_none (nat_le size 1024) (size % 8 == 0) (ne_eqb (size % 8) 0 odd))

bad_frame : (frame : ℕ) → IsBadFrame frame → is_frame frame ≡ false
bad_frame frame (inl short) = rw (lt-leb 1518 frame short) refl
bad_frame frame (inr long) = and_none (nat_le 1518 frame) (nat_le frame 9728) (lt-leb frame 9728 long)

good_ring : (size frame : ℕ) → IsFitting size frame → is_size size ≡ true
good_ring size frame fits =
    rw (le-leb 8 size fits.some, le-leb size 1024 fits.few, eq-eqb (size % 8) 0 fits.eights) refl

good_frame : (size frame : ℕ) → IsFitting size frame → is_frame frame ≡ true
good_frame size frame fits = rw (le-leb 1518 frame fits.long, le-leb frame 9728 fits.short) refl

start_tells : (a : Numbers) (q : AtPort) (size frame : ℕ) → StartTells a q size frame
start_tells a q size frame = record {
  ring = λ bad. rw (bad_ring size bad) refl;
  frames = λ bad. rw (and_none (is_size size) (is_frame frame) (bad_frame frame bad)) refl;
  blocks = λ fits few.
      rw (good_ring size frame fits, good_frame size frame fits, lt-leb _ _ few) refl;
  queue = λ fits room beyond.
      rw (good_ring size frame fits, good_frame size frame fits, room, le-ltb _ _ beyond) refl;
  none = λ fits room near.
      rw (good_ring size frame fits, good_frame size frame fits, room, lt-ltb _ _ near) refl;
}

pub starts_have_an_order : StartsHaveAnOrder
starts_have_an_order a q size frame = start_tells a q size frame

bad_length : (v : Sender) (p : Packet) → IsBadLength v p → is_bad_size v p ≡ true
bad_length v p (inl none) = rw (eq-eqb p.len 0 none) refl
bad_length v p (inr (inl long)) =
    let over = lt-ltb v.layout.limit p.len long in rw (or_some (p.len == 0) (nat_lt v.layout.limit p.len) over) refl
bad_length v p (inr (inr more)) =
    or_some (p.len == 0 || nat_lt v.layout.limit p.len) (nat_lt (2048 * length p.bufs) p.len) (lt-ltb _ _ more)

not_none : (n : ℕ) → 0 < n → n ≢ 0
not_none n some is = omega (arith, some, is)

good_length : (v : Sender) (p : Packet) → IsGoodLength v p → is_bad_size v p ≡ false
good_length v p fits =
    rw (
      ne_eqb p.len 0 (not_none p.len fits.some),
      le-ltb v.layout.limit p.len fits.few,
      le-ltb (2048 * length p.bufs) p.len fits.held,
    ) refl

and_not_true : (b : Bool) → (b && not true) ≡ false
and_not_true true = refl
and_not_true false = refl

packet_meets : (v : Sender) (a : Numbers) (p : Packet) (r : Result TxAnswer TxFault) → PacketMeets v a p r
packet_meets v a p r = record {
  size = λ bad. rw (bad_length v p bad) (λ is. is);
  size_elsewhere = λ bad. rw (bad_length v p bad) (λ is. is);
  foreign = λ good isnt. rw (good_length v p good, isnt) (λ is. is);
  elsewhere = λ good. rw (good_length v p good, and_not_true (goes_home v a p)) (λ is. is);
  full = λ good home many. rw (good_length v p good, home, le-ltb _ _ many) (λ is. is);
}

pub packets_have_an_order : PacketsHaveAnOrder
packets_have_an_order v a p r = packet_meets v a p r

pub frames_are : FramesAre
frames_are = record {
  shorter = refl;
  shortest = refl;
  longest = refl;
  longer = refl;
  shortest_packet = refl;
  longest_packet = refl;
  one_block = refl;
  one_whole_block = refl;
  two_blocks = refl;
  two_whole_blocks = refl;
  three_blocks = refl;
  four_whole_blocks = refl;
  five_blocks = refl;
  most = refl;
}
