-- The frame after a transmit step.
use Rattle.std.proofs.Common.{◌≡◌, ◌⊎◌, ◌+◌, ◌*◌, ◌-◌, ◌%◌, ◌^◌, ℕ, true, false, List, [], ◌++◌, length, append-nil, Option, Some, None, inl, inr, refl, ap, sym, ◌∙◌, subst, arith}
use Rattle.std.specs.Prelude.{replicate}
use Rattle.nic_device.specs.TxRing.Fetch.{descriptor_of, buffer_bytes}
use Rattle.nic_device.specs.Transmit.{staged_by, fetched_reply, with_frame}
use Rattle.datasheet_laws.specs.FramePrelude.{Fetched, Hlreg0, Registers, Ring, State, Tdbah, Tdbal, Tdh, command_of}
use Rattle.datasheet_laws.specs.FramePrelude.{frame_of}
use Rattle.datasheet_laws.specs.FramePrelude.{pads, read_at, second_half, transmit_queue_of, word_of}
use Rattle.datasheet_laws.proofs.FramePrelude.{cond-false, cond-true, cond_both}
use Rattle.datasheet_laws.specs.Bits.{bit, field}
use Rattle.datasheet_laws.specs.Transmitting.{head_descriptor, named_bytes, with_named, GoesOutAs, StagesBytes}
use Rattle.datasheet_laws.specs.Transmitting.{StagesNothing, SentAfter}
use Rattle.datasheet_laws.proofs.FrameBits.{has-one, has-zero, one-has, zero-has}
use Rattle.datasheet_laws.proofs.Slots.{low-half}

-- The descriptor and its bytes.

abbrev pub ring : State → ℕ → Ring
ring s queue = (transmit_queue_of s.registers queue).ring

abbrev pub descriptor : State → ℕ → List ℕ
descriptor s queue = descriptor_of s.memory (ring s queue)

pub head-is : (s : State) (queue : ℕ) → head_descriptor s queue ≡ descriptor s queue
head-is s queue =
    ap (λ h. read_at s.memory
    ((word_of s.registers Tdbah queue * 2 ^ 32 + word_of s.registers Tdbal queue + 16 * h) % 2 ^ 64) 16)
    (low-half (word_of s.registers Tdh queue))

length-is : (second : ℕ) → field 15 0 second ≡ (command_of second).len
unfolding command_of
length-is second = low-half second

pub type-is : (second : ℕ) → (command_of second).kind ≡ field 23 20 second
unfolding command_of
type-is second = refl

pub end-is : (second : ℕ) → (command_of second).end ≡ true → bit 24 second ≡ 1
unfolding command_of
end-is second e = one-has 24 second e

pub no-end : (second : ℕ) → (command_of second).end ≡ false → bit 24 second ≡ 0
unfolding command_of
no-end second e = zero-has 24 second e

named-is : (s : State) (queue : ℕ)
    → named_bytes s (head_descriptor s queue) ≡ buffer_bytes s.memory (descriptor s queue)
named-is s queue =
    ap (named_bytes s) (head-is s queue)
    ∙ ap (read_at s.memory _) (length-is (second_half (descriptor s queue)))

with-is : (s : State) (queue : ℕ)
    → with_named s queue ≡ staged_by s queue ++ buffer_bytes s.memory (descriptor s queue)
with-is s queue = ap (λ bytes. staged_by s queue ++ bytes) (named-is s queue)

-- Padding a frame to 60 bytes.

pad-none : (n : ℕ) (bytes : List ℕ) → n ≡ 0 → bytes ++ replicate n 0 ≡ bytes
pad-none n bytes e = ap (λ k. bytes ++ replicate k 0) e ∙ append-nil bytes

goes-out : (r : Registers) (bytes : List ℕ) → GoesOutAs r bytes (frame_of (pads r) bytes)
goes-out r bytes =
    let padded = bytes ++ replicate (60 - length bytes) 0 in
    record {
      plain = λ off. cond-false (pads r) padded bytes (has-zero 10 (word_of r Hlreg0 0) off);
      long = λ long. cond_both (pads r) padded bytes (λ frame. frame ≡ bytes)
          (λ on. pad-none (60 - length bytes) bytes (omega arith)) (λ off. refl);
      padded = λ on short. cond-true (pads r) padded bytes (has-one 10 (word_of r Hlreg0 0) on);
    }

module _ (s : State) (queue : ℕ) where
  abbrev pub second : ℕ
  second = second_half (descriptor s queue)

  abbrev pub bytes : List ℕ
  bytes = staged_by s queue ++ buffer_bytes s.memory (descriptor s queue)

  at-head : (P : List ℕ → Type 0) → P (descriptor s queue) → P (head_descriptor s queue)
  at-head P h = subst P (sym (head-is s queue)) h

  -- The possible states after a slot is fetched.
  abbrev pub Leaves : Option (List ℕ) → State → Type 0
  Leaves (Some frame) new =
      (frame ≡ frame_of (pads s.registers) bytes) × (field 23 20 second ≡ 3) × (bit 24 second ≡ 1)
      × (staged_by new queue ≡ [])
  Leaves None new =
      ((field 23 20 second ≡ 3) × (bit 24 second ≡ 0) × (staged_by new queue ≡ bytes))
      ⊎ ((field 23 20 second ≡ 2) × (staged_by new queue ≡ staged_by s queue))

  sent : (frame : List ℕ) (new : State) (f : Fetched) → new.out ≡ with_frame s.out queue (Some frame)
      → Leaves (Some frame) new → SentAfter queue (fetched_reply queue f (Some frame)) s new
  sent frame new f out leaves = record {
    frame = frame;
    bytes =
        subst (λ b. GoesOutAs s.registers b frame) (sym (with-is s queue))
        (subst (GoesOutAs s.registers bytes) (sym leaves.0) (goes-out s.registers bytes));
    long = refl;
    out = out;
    type = at-head (λ d. field 23 20 (second_half d) ≡ 3) leaves.1;
    end = at-head (λ d. bit 24 (second_half d) ≡ 1) leaves.2;
    staged = leaves.3;
  }

  advanced : (new : State) → Leaves None new → StagesBytes queue s new ⊎ StagesNothing queue s new
  advanced new (inl named) = inl (record {
    type = at-head (λ d. field 23 20 (second_half d) ≡ 3) named.0;
    goes_on = at-head (λ d. bit 24 (second_half d) ≡ 0) named.1;
    staged = named.2 ∙ sym (with-is s queue);
  })
  advanced new (inr context) = inr (record {
    type = at-head (λ d. field 23 20 (second_half d) ≡ 2) context.0;
    staged = context.1;
  })

  pub fetched_after : (new : State) (f : Fetched) (o : Option (List ℕ)) → new.out ≡ with_frame s.out queue o
      → Leaves o new → SentAfter queue (fetched_reply queue f o) s new
  fetched_after new f (Some frame) out leaves = sent frame new f out leaves
  fetched_after new f None out leaves = (advanced new leaves, out)
