-- Which blocks are free and which are lent, before and after events of a card's device.
use Rattle.std.proofs.Common.{◌≡◌, IsFalse, refl, sym, ◌∙◌, ap, subst, ℕ, Bool, true, false, is_some, option_map, List, Option, Some, None, Result, Ok, Err, OnOk, OnErr, inl, inr}
use Rattle.std.specs.FinMap as map
use Rattle.std.specs.Prelude.{IsOk}
use Rattle.std.proofs.lemmas.Bool.Decides.{eqb_tells}
use Rattle.nic_device.specs.DmaArena.Block.{Block, zero_block}
use Rattle.nic_device.specs.DmaArena.Memory.{Memory, has_block, block_at, write_at}
use Rattle.nic_device.specs.DmaArena.Numbers.{Numbers, is_own, is_free, with_free}
use Rattle.nic_device.specs.Access.{named_written}
use Rattle.nic_device.specs.Named.{named}
use Rattle.nic_device.specs.declared.event.Port.{Port}
use Rattle.nic_device.specs.declared.named.Named.{Named}
use Rattle.nic_device.specs.declared.named.Named.TheVariants.{Nothing, Register}
use Rattle.nic_device.specs.Lending.{block_taken, taken}
use Rattle.nic_device.specs.Outcome.{Outcome, gives}
use Rattle.nic_device.specs.State.{State}
use Rattle.nic_device.specs.Step.{step_of, moves_block, hands_out, handed_block}
use Rattle.nic_device.specs.declared.Event.{Event}
use Rattle.nic_device.specs.declared.Event.TheVariants as event
use Rattle.nic_device.specs.declared.Reply.{Reply}
use Rattle.nic_device.specs.declared.Reply.TheVariants.{Done}
use Rattle.nic_device.proofs.DmaArena.Bus.{SameLent-write_at, get-insert_same, get-insert_other}
use Rattle.nic_device.proofs.KeptBlocks.{keeps_blocks}
use Rattle.card.specs.Card.{Holdings, AreShared, CanReturn, arena_after, IsOfWrite, with_lent}
use Rattle.card.proofs.Sharing.{lent_away, free_not_lent, shared-taken, shared-lent, shared-same, with_free-back}
use Rattle.card.proofs.Returning.{taken_block}

-- An event that moves no block.

pub made-none : (s : State) (e : Event Block) (r : Reply Block) → IsFalse (moves_block e) → r ≡ (step_of s e).reply
    → IsFalse (hands_out r)
made-none s e r none is = ap hands_out is ∙ (keeps_blocks s e none).none

pub made-shared : (s t : State) (a : Numbers) (e : Event Block) → AreShared s.memory a → IsFalse (moves_block e)
    → t ≡ (step_of s e).state → AreShared t.memory a
made-shared s t a e h none is =
    subst (λ (u : State). AreShared u.memory a) (sym is)
    (shared-same s.memory (step_of s e).state.memory a h (keeps_blocks s e none).lent)

-- The shared blocks after an event that may have been refused.
pub made-tried : {A E : Type 0} (s t : State) (a : Numbers) (e : Event Block) (result : Result A E)
    → AreShared s.memory a → IsFalse (moves_block e) → OnOk result (t ≡ (step_of s e).state)
    → OnErr result (t ≡ s) → AreShared t.memory a
made-tried s t a e (Ok reply) h none made refused = made-shared s t a e h none made
made-tried s t a e (Err why) h none made refused = subst (λ (u : State). AreShared u.memory a) (sym refused) h

-- The possible replies to a write.
written_is : (s : State) (named : Named) (word : ℕ) → IsOfWrite (named_written s named word).reply
written_is s (Nothing seen) word = refl
written_is s (Register place view) word = tt

pub write-replies : (s : State) (port : Port) (number word : ℕ) (r : Reply Block)
    → r ≡ (step_of s (event.Write port number word)).reply → IsOfWrite r
unfolding step_of
write-replies s port number word r is = subst IsOfWrite (sym is) (written_is s (named s port number) word)

-- A free block is lent.

pub not_false : (b : Bool) → (b ≡ false → true ≡ false) → b ≡ true
not_false true h = refl
not_false false h = sym (h refl)

lent-done : (s : State) (b : Block) → has_block s.memory b.number ≡ false
    → step_of s (event.Lend b) ≡ gives Done (record s { memory = map.insert s.memory b.number b.bytes })
unfolding step_of
lent-done s b away = rw away refl

-- Lending a free block succeeds.
pub record IsLent (s : State) (a : Numbers) (n : ℕ) (b : Block) : Type 0 where
  pub free : is_free a n ≡ true
  pub zero : b ≡ zero_block n
  pub shared : AreShared s.memory a

pub lent-is : (s : State) (a : Numbers) (n : ℕ) (b : Block) → IsLent s a n b
    → step_of s (event.Lend b) ≡ gives Done (record s { memory = map.insert s.memory n (zero_block n).bytes })
lent-is s a n b h = ap (λ b. step_of s (event.Lend b)) h.zero
    ∙ lent-done s (zero_block n) (free_not_lent s.memory a n h.shared h.free)

pub lent-none : (s : State) (a : Numbers) (n : ℕ) (b : Block) (r : Reply Block) → IsLent s a n b
    → r ≡ (step_of s (event.Lend b)).reply → IsFalse (hands_out r)
lent-none s a n b r h is = ap hands_out (is ∙ ap (λ (o : Outcome). o.reply) (lent-is s a n b h))

pub lent-replies : (s : State) (a : Numbers) (n : ℕ) (b : Block) → IsLent s a n b
    → (step_of s (event.Lend (zero_block n))).reply ≡ Done
lent-replies s a n b h =
    ap (λ (o : Outcome). o.reply) (lent-is s a n (zero_block n)
    (record { free = h.free; zero = refl; shared = h.shared }))

pub lent-shared : (s t : State) (a after : Numbers) (n : ℕ) (b : Block) → IsLent s a n b
    → t ≡ (step_of s (event.Lend b)).state → after ≡ with_free a n false → AreShared t.memory after
lent-shared s t a after n b h is rest =
    subst (λ (u : State). AreShared u.memory after) (sym (is ∙ ap (λ (o : Outcome). o.state) (lent-is s a n b h)))
    (subst (AreShared (map.insert s.memory n (zero_block n).bytes)) (sym rest)
    (shared-lent s.memory a n (zero_block n).bytes h.shared h.free))

pub with_lent-is : (s t : State) (a rest : Numbers) (n : ℕ) (b : Block) → IsLent s a n b
    → t ≡ (step_of s (event.Lend b)).state → rest ≡ with_free a n false
    → (let now : Holdings = record { device = t; arena = rest } in now) ≡
    with_lent (record { device = s; arena = a }) n
with_lent-is s t a rest n b h is left =
    let state : t ≡ (step_of s (event.Lend (zero_block n))).state = is
    ∙ ap (λ b. (step_of s (event.Lend b)).state) h.zero in
    rw (h.free, state, left) refl

-- A block that couldn't be lent is returned.
pub gave-back : (s t : State) (a between after : Numbers) (n : ℕ) (b : Block) → is_free a n ≡ true
    → between ≡ with_free a n false → b.number ≡ n
    → after ≡ with_free between b.number true → t ≡ s
    → (let now : Holdings = record { device = t; arena = after } in now) ≡ record { device = s; arena = a }
gave-back s t a between after n b free taken number given same =
    let back : after ≡ a = given ∙ ap (λ m. with_free between m true) number ∙ ap (λ x. with_free x n true) taken
    ∙ with_free-back a n free in
    ap (λ (u : State). let now : Holdings = record { device = u; arena = after } in now) same
    ∙ ap (λ x. let now : Holdings = record { device = s; arena = x } in now) back

-- A block is taken back.

returned : (s : State) (a : Numbers) (n : ℕ) (found : Option Block) → AreShared s.memory a
    → block_at s.memory n ≡ found → CanReturn a (block_taken s n found).reply
returned s a n None h is = tt
returned s a n (Some b) h is =
    let block = taken_block s.memory n b (map.get s.memory n) refl is in (
      ap (is_own a) block.0 ∙ h.few n block.1,
      ap (is_free a) block.0
          ∙ lent_away s.memory a n h block.1,
    )

pub taken-returned : (s : State) (a : Numbers) (n : ℕ) (r : Reply Block) → AreShared s.memory a
    → r ≡ (step_of s (event.Take n)).reply → CanReturn a r
unfolding step_of
taken-returned s a n r h is = subst (CanReturn a) (sym is) (returned s a n (block_at s.memory n) h refl)

shared_again : (s : State) (a : Numbers) (n : ℕ) (found : Option Block) → AreShared s.memory a
    → block_at s.memory n ≡ found
    → AreShared (block_taken s n found).state.memory (arena_after a (block_taken s n found).reply)
shared_again s a n None h is = h
shared_again s a n (Some b) h is =
    let block = taken_block s.memory n b (map.get s.memory n) refl is in
    subst (λ m. AreShared (map.remove s.memory n) (with_free a m true)) (sym block.0)
    (shared-taken s.memory a n h block.1)

pub taken-shared : (s t : State) (a rest : Numbers) (n : ℕ) (r : Reply Block) → AreShared s.memory a
    → r ≡ (step_of s (event.Take n)).reply
    → t ≡ (step_of s (event.Take n)).state → rest ≡ arena_after a r → AreShared t.memory rest
unfolding step_of
taken-shared s t a rest n r h reply state left =
    subst (AreShared t.memory) (sym (left ∙ ap (arena_after a) reply))
    (subst (λ (u : State). AreShared u.memory (arena_after a (taken s n).reply)) (sym state)
    (shared_again s a n (block_at s.memory n) h refl))

-- A returned block belongs to the arena and isn't free there.

own_away : (s : State) (a : Numbers) (n : ℕ) (b : Block) (found : Option Block) → AreShared s.memory a
    → block_at s.memory n ≡ found → handed_block (block_taken s n found).reply ≡ Some b
    → (is_own a b.number ≡ true) × (is_free a b.number ≡ false)
own_away s a n b None h is e = (let no : None ≡ Some b = e in cc)
own_away s a n b (Some block) h is e =
    let same : block ≡ b = cc in
    subst (λ x. (is_own a x.number ≡ true) × (is_free a x.number ≡ false)) same (returned s a n (Some block) h is)

pub taken-away : (s : State) (a : Numbers) (n : ℕ) (b : Block) (r : Reply Block) → AreShared s.memory a
    → r ≡ (step_of s (event.Take n)).reply → handed_block r ≡ Some b
    → (is_own a b.number ≡ true) × (is_free a b.number ≡ false)
unfolding step_of
taken-away s a n b r h is some =
    own_away s a n b (block_at s.memory n) h refl (sym (ap handed_block is) ∙ some)

-- A block is returned if and only if it was lent.

found_has : (n : ℕ) (found : Option (List ℕ))
    → is_some (option_map (λ bytes. let b : Block = record { number = n; bytes = bytes } in b) found) ≡ is_some found
found_has n None = refl
found_has n (Some bytes) = refl

handed_found : (s : State) (n : ℕ) (found : Option Block)
    → is_some (handed_block (block_taken s n found).reply) ≡ is_some found
handed_found s n None = refl
handed_found s n (Some b) = refl

pub taken-tells : (s : State) (n : ℕ) (r : Reply Block) → r ≡ (step_of s (event.Take n)).reply
    → is_some (handed_block r) ≡ has_block s.memory n
unfolding step_of
taken-tells s n r is =
    ap (λ (x : Reply Block). is_some (handed_block x)) is
    ∙ handed_found s n (block_at s.memory n) ∙ found_has n (map.get s.memory n)

-- Bytes are written over the bus, or not.

pub written-shared : (s t : State) (a : Numbers) (lent : Bool) (bus : ℕ) (bytes : List ℕ) → AreShared s.memory a
    → (lent ≡ true → t ≡ record s { memory = write_at s.memory bus bytes }) → (lent ≡ false → t ≡ s)
    → AreShared t.memory a
written-shared s t a true bus bytes h written kept =
    subst (λ (u : State). AreShared u.memory a) (sym (written refl))
    (shared-same s.memory (write_at s.memory bus bytes) a h (SameLent-write_at s.memory bus bytes))
written-shared s t a false bus bytes h written kept =
    subst (λ (u : State). AreShared u.memory a) (sym (kept refl)) h

-- The memory of a lent block is replaced.

exchanged_has : (m : Memory) (n q : ℕ) (bytes : List ℕ) → has_block m n ≡ true
    → has_block (map.insert m n bytes) q ≡ has_block m q
exchanged_has m n q bytes lent = elim (eqb_tells q n) [
  | inl (test, is) ↦ rw is (ap is_some (get-insert_same m n bytes) ∙ sym lent)
  | inr (test, other) ↦ ap is_some (get-insert_other m n bytes q other)
]

pub exchanged-shared : {A E : Type 0} (s t : State) (a : Numbers) (n : ℕ) (bytes : List ℕ) (result : Result A E)
    → AreShared s.memory a → (IsOk result → has_block s.memory n ≡ true)
    → OnOk result (t ≡ record s { memory = map.insert s.memory n bytes }) → OnErr result (t ≡ s)
    → AreShared t.memory a
exchanged-shared s t a n bytes (Ok former) h lent put kept =
    subst (λ (u : State). AreShared u.memory a) (sym put)
    (shared-same s.memory (map.insert s.memory n bytes) a h (λ q. exchanged_has s.memory n q bytes (lent refl)))
exchanged-shared s t a n bytes (Err back) h lent put kept =
    subst (λ (u : State). AreShared u.memory a) (sym kept) h
