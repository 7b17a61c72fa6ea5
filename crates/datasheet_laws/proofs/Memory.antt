-- The replies to memory calls.
use Rattle.std.proofs.Common.{◌≡◌, ◌≤◌, ◌+◌, ◌*◌, ◌/◌, ◌%◌, ◌==◌, ℕ, true, false, cond, List, length, Option, Some, None, refl, ap, ◌∙◌, arith}
use Rattle.std.specs.Prelude.{is_some, option_map, take, drop}
use Rattle.std.specs.FinMap as map
use Rattle.std.proofs.lemmas.Bool.{cond-true, cond-false, both_ways, eq-eqb, false_from_ne_true}
use Rattle.nic_device.specs.DmaArena.Memory.{Memory, has_block, is_lent, read_at, write_at, part}
use Rattle.nic_device.proofs.DmaArena.Blocks.{is_lent_in, read_at_in}
use Rattle.nic_device.proofs.DmaArena.Bus.{is_lent_first}
use Rattle.nic_device.proofs.DmaArena.Single.{get-insert_same, get-remove_same}
use Rattle.nic_device.specs.Lending.{lent, block_taken, peeked}
use Rattle.nic_device.specs.declared.event.Reply.TheVariants.{Done, Bytes, Twice, NotLent, Misaligned}
use Rattle.datasheet_laws.specs.FramePrelude.{Block, IsSound, Outcome, State, gives, step_of}
use Rattle.datasheet_laws.specs.Memory.{IsNotLent, sixteen, Lends, Takes, Looks, Writes, MemoryCallsAnswer}

-- 16 bytes at a multiple of 16 are in one block.

none-lent : (m : Memory) (a : ℕ) → map.get m (a / 2048) ≡ None → is_lent m a 16 ≡ false
none-lent m a none =
    false_from_ne_true (is_lent m a 16)
    (λ all. both_ways (has_block m (a / 2048)) (ap is_some none) (is_lent_first m a 15 all))

within : (a : ℕ) → a % 16 ≡ 0 → a % 2048 + 16 ≤ 2048
within a e = omega arith

place : (a : ℕ) → a ≡ 2048 * (a / 2048) + a % 2048
place a = omega arith

some-lent : (m : Memory) (a : ℕ) (block : List ℕ) → a % 16 ≡ 0 → map.get m (a / 2048) ≡ Some block
    → is_lent m a 16 ≡ true
some-lent m a block aligned is =
    is_lent_in m a 16 (a / 2048) (a % 2048) (ap is_some is) (place a) (within a aligned)

part-is : (xs : List ℕ) (at n : ℕ) → part xs at n ≡ take n (drop at xs)
unfolding part
part-is xs at n = refl

shown : (m : Memory) (a : ℕ) (block : List ℕ) → a % 16 ≡ 0 → map.get m (a / 2048) ≡ Some block
    → length block ≡ 2048 → read_at m a 16 ≡ sixteen (a % 2048) block
shown m a block aligned is whole =
    read_at_in m a 16 (a / 2048) (a % 2048) block is whole (place a) (within a aligned)
    ∙ part-is block (a % 2048) 16

-- A peek, and a poke.

abbrev looked : State → ℕ → Outcome
looked s a = cond (is_lent s.memory a 16) (gives (Bytes (read_at s.memory a 16)) s) (gives NotLent s)

peek-none : (s : State) (a : ℕ) → a % 16 ≡ 0 → map.get s.memory (a / 2048) ≡ None → peeked s a ≡ gives NotLent s
peek-none s a aligned none =
    cond-true (a % 16 == 0) (looked s a) (gives Misaligned s) (eq-eqb (a % 16) 0 aligned)
    ∙ cond-false (is_lent s.memory a 16) (gives (Bytes (read_at s.memory a 16)) s) (gives NotLent s)
    (none-lent s.memory a none)

pub peek-block : (s : State) (a : ℕ) (block : List ℕ) → a % 16 ≡ 0 → map.get s.memory (a / 2048) ≡ Some block
    → length block ≡ 2048 → peeked s a ≡ gives (Bytes (sixteen (a % 2048) block)) s
peek-block s a block aligned is whole =
    cond-true (a % 16 == 0) (looked s a) (gives Misaligned s) (eq-eqb (a % 16) 0 aligned)
    ∙ cond-true (is_lent s.memory a 16) (gives (Bytes (read_at s.memory a 16)) s) (gives NotLent s)
    (some-lent s.memory a block aligned is)
    ∙ ap (λ bytes. gives (Bytes bytes) s) (shown s.memory a block aligned is whole)

looks : (s : State) → IsSound s → (a : ℕ) → a % 16 ≡ 0 → Looks s a
unfolding step_of
looks s h a aligned = record {
  none = peek-none s a aligned;
  bytes = λ block is. peek-block s a block aligned is (h.blocks.whole.block (a / 2048) block is).size;
}

writes : (s : State) (a : ℕ) (bytes : List ℕ) → a % 16 ≡ 0 → Writes s a bytes
unfolding step_of
writes s a bytes aligned =
    let written = gives Done (record s { memory = write_at s.memory a bytes }) in
    let here = cond-true (a % 16 == 0) (cond (is_lent s.memory a 16) written (gives NotLent s)) (gives Misaligned s)
    (eq-eqb (a % 16) 0 aligned) in
    record {
      none = λ none.
          here ∙ cond-false (is_lent s.memory a 16) written (gives NotLent s) (none-lent s.memory a none);
      done = λ block is.
          ap (λ (o : Outcome). o.reply)
          (here
          ∙ cond-true (is_lent s.memory a 16) written (gives NotLent s) (some-lent s.memory a block aligned is));
    }

-- A lent block, and a block that is taken.

lends : (s : State) (block : Block) → Lends s block
unfolding step_of
lends s block =
    let had = has_block s.memory block.number in
    let done = gives Done (record s { memory = map.insert s.memory block.number block.bytes }) in
    let fresh : IsNotLent s block.number → lent s block ≡ done =
    λ none. cond-false had (gives (Twice block) s) done (ap is_some none) in
    record {
      fresh = λ none. ap (λ (o : Outcome). o.reply) (fresh none);
      is_lent = λ none.
          ap (λ (o : Outcome). map.get o.state.memory block.number) (fresh none)
          ∙ get-insert_same s.memory block.number block.bytes;
      twice = λ bytes is. cond-true had (gives (Twice block) s) done (ap is_some is);
    }

abbrev pub numbered : ℕ → List ℕ → Block
numbered number bytes = record { number = number; bytes = bytes }

abbrev pub taken_by : State → ℕ → Option (List ℕ) → Outcome
taken_by s number o = block_taken s number (option_map (numbered number) o)

gone : (s : State) (number : ℕ) (o : Option (List ℕ)) → map.get s.memory number ≡ o
    → map.get (taken_by s number o).state.memory number ≡ None
gone s number None e = e
gone s number (Some bytes) e = get-remove_same s.memory number

takes : (s : State) (number : ℕ) → Takes s number
unfolding step_of
takes s number = record {
  none = λ none. ap (taken_by s number) none;
  block = λ bytes is. ap (λ o. (taken_by s number o).reply) is;
  gone = gone s number (map.get s.memory number) refl;
}

pub calls_answer : MemoryCallsAnswer
calls_answer = record {
  lend = lends;
  take = takes;
  peek = looks;
  poke = λ s h a aligned bytes. writes s a bytes aligned;
}
