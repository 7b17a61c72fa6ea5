-- How one memory call shows the effect of another.
use Rattle.std.proofs.Common.{◌≡◌, ◌<◌, ◌+◌, ◌*◌, ◌/◌, ◌%◌, ◌==◌, ℕ, Bool, true, false, cond, List, length, Option, Some, None, refl, ap, sym, ◌∙◌, subst, arith}
use Rattle.std.specs.FinMap as map
use Rattle.nic_device.specs.DmaArena.Memory.{has_block, is_lent, read_at, write_at, AreApart}
use Rattle.nic_device.proofs.DmaArena.Bus.{is_lent-same, SameLent-write_at, read_at-write_at_same, read_at-write_at_apart}
use Rattle.nic_device.proofs.DmaArena.Single.{get-insert_same}
use Rattle.nic_device.specs.Lending.{lent, peeked, poked}
use Rattle.nic_device.specs.declared.event.Reply.TheVariants.{Done, Bytes, Buf, Twice, NotLent, Misaligned}
use Rattle.nic_device.proofs.Cases.{poked_cases}
use Rattle.datasheet_laws.specs.FramePrelude.{Block, IsSound, Outcome, Reply, State, gives, step_of}
use Rattle.datasheet_laws.proofs.FramePrelude.{cond_both, eq-eqb, eqb-true}
use Rattle.datasheet_laws.specs.Memory.{sixteen, PokedIsPeeked, LentIsPeeked, TakenIsAsPeeked}
use Rattle.datasheet_laws.proofs.Memory.{peek-block, taken_by, numbered}

-- The reply to a peek, whatever else the state contains.
abbrev pub answer : (aligned lent : Bool) → List ℕ → Reply Block
answer aligned lent bytes = cond aligned (cond lent (Bytes bytes) NotLent) Misaligned

reply-is : (aligned lent : Bool) (bytes : List ℕ) (s : State)
    → (cond aligned (cond lent (gives (Bytes bytes) s) (gives NotLent s)) (gives Misaligned s)).reply
    ≡ answer aligned lent bytes
reply-is true true bytes s = refl
reply-is true false bytes s = refl
reply-is false lent bytes s = refl

pub peek-is : (s : State) (a : ℕ)
    → (peeked s a).reply ≡ answer (a % 16 == 0) (is_lent s.memory a 16) (read_at s.memory a 16)
peek-is s a = reply-is (a % 16 == 0) (is_lent s.memory a 16) (read_at s.memory a 16) s

module _ (s : State) (a : ℕ) (bytes : List ℕ) (sixteen_bytes : length bytes ≡ 16) where
  abbrev written : State
  written = record s { memory = write_at s.memory a bytes }

  lent-still : (b : ℕ) → is_lent written.memory b 16 ≡ is_lent s.memory b 16
  lent-still b = is_lent-same written.memory s.memory (SameLent-write_at s.memory a bytes) b 16

  -- A poke that is done wrote lent bytes at a multiple of 16.
  pub record IsDone (o : Outcome) : Type 0 where
    pub aligned : o.reply ≡ Done → a % 16 ≡ 0
    pub lent : o.reply ≡ Done → is_lent s.memory a 16 ≡ true
    pub state : o.reply ≡ Done → o ≡ gives Done written

  done : IsDone (poked s a bytes)
  done =
      cond_both (a % 16 == 0) (cond (is_lent s.memory a 16) (gives Done written) (gives NotLent s)) (gives Misaligned s)
      IsDone
      (λ aligned.
      cond_both (is_lent s.memory a 16) (gives Done written) (gives NotLent s) IsDone
      (λ lent. record { aligned = λ e. eqb-true (a % 16) 0 aligned; lent = λ e. lent; state = λ e. refl })
      (λ none. record { aligned = λ e. cc; lent = λ e. cc; state = λ e. cc }))
      (λ other. record { aligned = λ e. cc; lent = λ e. cc; state = λ e. cc })

  read-back : IsSound s → is_lent s.memory a 16 ≡ true → read_at written.memory a 16 ≡ bytes
  read-back h lent =
      subst (λ n. read_at written.memory a n ≡ bytes) sixteen_bytes
      (read_at-write_at_same s.memory a bytes h.blocks.whole
      (subst (λ n. is_lent s.memory a n ≡ true) (sym sixteen_bytes) lent))

  shows-same : IsSound s → a % 16 ≡ 0 → is_lent s.memory a 16 ≡ true → (peeked written a).reply ≡ Bytes bytes
  shows-same h aligned lent =
      peek-is written a
      ∙ ap (λ b. answer b (is_lent written.memory a 16) (read_at written.memory a 16)) (eq-eqb (a % 16) 0 aligned)
      ∙ ap (λ b. answer true b (read_at written.memory a 16)) (lent-still a ∙ lent)
      ∙ ap (answer true true) (read-back h lent)

  shows-apart : (b : ℕ) → AreApart b 16 a 16 → (peeked written b).reply ≡ (peeked s b).reply
  shows-apart b apart =
      peek-is written b
      ∙ ap (λ c. answer (b % 16 == 0) c (read_at written.memory b 16)) (lent-still b)
      ∙ ap (answer (b % 16 == 0) (is_lent s.memory b 16))
      (read_at-write_at_apart s.memory a bytes b 16 (subst (AreApart b 16 a) (sym sixteen_bytes) apart))
      ∙ sym (peek-is s b)

  poke-apart : (b : ℕ) → AreApart b 16 a 16 → (peeked (poked s a bytes).state b).reply ≡ (peeked s b).reply
  poke-apart b apart =
      poked_cases (λ o. (peeked o.state b).reply ≡ (peeked s b).reply) s a bytes refl refl (shows-apart b apart)

  poke-same : IsSound s → (poked s a bytes).reply ≡ Done → (peeked (poked s a bytes).state a).reply ≡ Bytes bytes
  poke-same h e =
      ap (λ (o : Outcome). (peeked o.state a).reply) (done.state e) ∙ shows-same h (done.aligned e) (done.lent e)

pub poked_is_peeked : PokedIsPeeked
unfolding step_of
poked_is_peeked s h a bytes long = record { same = poke-same s a bytes long h; apart = poke-apart s a bytes long }

-- Byte `at` of a block.

block-of : (number at : ℕ) → at < 2048 → (2048 * number + at) / 2048 ≡ number
block-of number at low = omega arith

byte-of : (number at : ℕ) → at < 2048 → (2048 * number + at) % 2048 ≡ at
byte-of number at low = omega arith

aligned-in : (number at : ℕ) → at % 16 ≡ 0 → (2048 * number + at) % 16 ≡ 0
aligned-in number at e = omega arith

peek-in : (s : State) (number at : ℕ) (bytes : List ℕ) → map.get s.memory number ≡ Some bytes → length bytes ≡ 2048
    → at < 2048 → at % 16 ≡ 0 → (peeked s (2048 * number + at)).reply ≡ Bytes (sixteen at bytes)
peek-in s number at bytes is whole low aligned =
    ap (λ (o : Outcome). o.reply)
    (peek-block s (2048 * number + at) bytes (aligned-in number at aligned)
    (ap (map.get s.memory) (block-of number at low) ∙ is) whole)
    ∙ ap (λ n. Bytes (sixteen n bytes)) (byte-of number at low)

lend-done : (s : State) (block : Block) → (lent s block).reply ≡ Done
    → lent s block ≡ gives Done (record s { memory = map.insert s.memory block.number block.bytes })
lend-done s block =
    let with_block = gives Done (record s { memory = map.insert s.memory block.number block.bytes }) in
    cond_both (has_block s.memory block.number) (gives (Twice block) s) with_block
    (λ o. o.reply ≡ Done → o ≡ with_block) (λ twice e. cc) (λ fresh e. refl)

pub lent_is_peeked : LentIsPeeked
unfolding step_of
lent_is_peeked s h block whole done at low aligned =
    ap (λ (o : Outcome). (peeked o.state (2048 * block.number + at)).reply) (lend-done s block done)
    ∙ peek-in (record s { memory = map.insert s.memory block.number block.bytes }) block.number at block.bytes
    (get-insert_same s.memory block.number block.bytes) whole.size low aligned

-- A block that is taken back was lent with its bytes.
was-lent : (s : State) (number : ℕ) (block : Block) (o : Option (List ℕ)) → (taken_by s number o).reply ≡ Buf block
    → o ≡ Some block.bytes
was-lent s number block None e = cc
was-lent s number block (Some bytes) e =
    let is : numbered number bytes ≡ block = cc in
    ap (λ (b : Block). Some b.bytes) is

pub taken_is_as_peeked : TakenIsAsPeeked
unfolding step_of
taken_is_as_peeked s h number block e at low aligned =
    let is = was-lent s number block (map.get s.memory number) e in
    peek-in s number at block.bytes is (h.blocks.whole.block number block.bytes is).size low aligned
