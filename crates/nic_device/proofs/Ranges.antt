-- A range read or write on the bus has the same effect as n consecutive peeks or pokes.
use Rattle.std.proofs.Common.{◌≡◌, ℕ, zero, suc, ◌+◌, ◌*◌, ◌%◌, ◌≤◌, true, List, [], ◌∷◌, ◌++◌, length, take, drop, refl, sym, ap, subst, Bool, false, ◌∙◌, arith, Result, Ok, Err, OnOk, OnErr, Some}
use Rattle.std.specs.FinMap as map
use Rattle.std.specs.Prelude.{IsOk}
use Rattle.std.proofs.lemmas.Bool.{and_parts}
use Rattle.std.proofs.lemmas.List.{drop_all, append-nil, length-drop, length-take-le, nil_from_length, take-append-drop}
use Rattle.rx_ring.specs.DmaArena.Block.{Block}
use Rattle.rx_ring.specs.DmaArena.Memory.{Memory, has_block, is_lent, read_at, write_at, put_bytes, IsWhole}
use Rattle.rx_ring.proofs.DmaArena.Bus.{SameLent-write_at, is_lent-same, of_some, small_of_lent}
use Rattle.rx_ring.proofs.DmaArena.Blocks.{is_lent_in, write_at_in}
use Rattle.rx_ring.proofs.DmaArena.Joined.{is_lent-append, read_at-append, write_at-append}
use Rattle.nic_device.specs.Bus.{peeks, pokes, reported_bytes, PeeksTell, PokesLead}
use Rattle.nic_device.specs.Lending.{peeked, poked}
use Rattle.nic_device.specs.Outcome.{Outcome, gives}
use Rattle.nic_device.specs.Run.{replies_of, state_after}
use Rattle.nic_device.specs.Sound.{AreBytes, IsSound}
use Rattle.nic_device.specs.State.{State}
use Rattle.nic_device.specs.Step.{step_of}
use Rattle.nic_device.proofs.Blocks.{AreBlocks-insert, AreBlocks-write_at}
use Rattle.nic_device.proofs.Keeping.{sound-memory}
use Rattle.nic_device.specs.declared.event.Reply.TheVariants.{Bytes, Done}

-- One event.

peeked-lent : (s : State) (a : ℕ) → a % 16 ≡ 0 → is_lent s.memory a 16 ≡ true
    → peeked s a ≡ gives (Bytes (read_at s.memory a 16)) s
peeked-lent s a aligned lent = rw (aligned, lent) refl

poked-lent : (s : State) (a : ℕ) (bytes : List ℕ) → a % 16 ≡ 0 → is_lent s.memory a 16 ≡ true
    → poked s a bytes ≡ gives Done (record s { memory = write_at s.memory a bytes })
poked-lent s a bytes aligned lent = rw (aligned, lent) refl

-- A 16-byte range, followed by another range.

lent_parts : (m : Memory) (a n : ℕ) → is_lent m a (16 * suc n) ≡ true
    → (is_lent m a 16 ≡ true) × (is_lent m (a + 16) (16 * n) ≡ true)
lent_parts m a n lent =
    let split : 16 * suc n ≡ 16 + 16 * n = omega arith in
    let both : is_lent m a (16 + 16 * n) ≡ true = subst (λ (k : ℕ). is_lent m a k ≡ true) split lent in
    and_parts (is_lent m a 16) (is_lent m (a + 16) (16 * n)) (sym (is_lent-append m a 16 (16 * n)) ∙ both)

read_at-parts : (m : Memory) (a n : ℕ)
    → read_at m a 16 ++ read_at m (a + 16) (16 * n) ≡ read_at m a (16 * suc n)
read_at-parts m a n =
    let split : 16 + 16 * n ≡ 16 * suc n = omega arith in
    sym (read_at-append m a 16 (16 * n)) ∙ ap (read_at m a) split

read_at-none : (m : Memory) (a : ℕ) → read_at m a 0 ≡ []
unfolding read_at
read_at-none m a = refl

write_at-none : (m : Memory) (a : ℕ) → write_at m a [] ≡ m
unfolding write_at
write_at-none m a = refl

-- n peeks.

pub peeks_tell : (s : State) (a n : ℕ) → a % 16 ≡ 0 → is_lent s.memory a (16 * n) ≡ true
    → PeeksTell s a n (read_at s.memory a (16 * n))
unfolding step_of
peeks_tell s a zero aligned lent = record { state = refl; reported = sym (read_at-none s.memory a) }
peeks_tell s a (suc n) aligned lent =
    let parts = lent_parts s.memory a n lent in
    let rest = peeks_tell s (a + 16) n (omega arith) parts.1 in
    let first = peeked-lent s a aligned parts.0 in record {
      state = ap (λ (o : Outcome). state_after o.state (peeks (a + 16) n)) first ∙ rest.state;
      reported = ap (λ (o : Outcome). reported_bytes (o.reply ∷ replies_of o.state (peeks (a + 16) n))) first
          ∙ ap (λ (xs : List ℕ). read_at s.memory a 16 ++ xs) rest.reported ∙ read_at-parts s.memory a n;
    }

-- n pokes.

poked_last : (s : State) (a : ℕ) (bytes : List ℕ) → length bytes ≡ 0
    → s ≡ record s { memory = write_at s.memory a bytes }
poked_last s a bytes none = rw (nil_from_length bytes none, write_at-none s.memory a) refl

write_at-parts : (m : Memory) (a : ℕ) (bytes : List ℕ) → 16 ≤ length bytes
    → write_at (write_at m a (take 16 bytes)) (a + 16) (drop 16 bytes) ≡ write_at m a bytes
write_at-parts m a bytes long =
    let first : length (take 16 bytes) ≡ 16 = length-take-le 16 bytes long in
    ap (λ (n : ℕ). write_at (write_at m a (take 16 bytes)) (a + n) (drop 16 bytes)) (sym first)
    ∙ sym (write_at-append m a (take 16 bytes) (drop 16 bytes))
    ∙ ap (write_at m a) (take-append-drop 16 bytes)

pub pokes_lead : (s : State) (a n : ℕ) (bytes : List ℕ) → a % 16 ≡ 0 → length bytes ≡ 16 * n
    → is_lent s.memory a (16 * n) ≡ true
    → PokesLead s a n bytes (record s { memory = write_at s.memory a bytes })
unfolding step_of
pokes_lead s a zero bytes aligned long lent = record { state = poked_last s a bytes long; made = refl }
pokes_lead s a (suc n) bytes aligned long lent =
    let m : Memory = write_at s.memory a (take 16 bytes) in
    let parts = lent_parts s.memory a n lent in
    let still : is_lent m (a + 16) (16 * n) ≡ true =
    is_lent-same m s.memory (SameLent-write_at s.memory a (take 16 bytes)) (a + 16) (16 * n) ∙ parts.1 in
    let left : length (drop 16 bytes) ≡ 16 * n = length-drop 16 bytes ∙ omega arith in
    let rest = pokes_lead (record s { memory = m }) (a + 16) n (drop 16 bytes) (omega arith) left still in
    let first = poked-lent s a (take 16 bytes) aligned parts.0 in
    let joined = write_at-parts s.memory a bytes (omega arith) in record {
      state = ap (λ (o : Outcome). state_after o.state (pokes (a + 16) (drop 16 bytes) n)) first ∙ rest.state
          ∙ ap (λ (x : Memory). let t : State = record s { memory = x } in t) joined;
      made = ap (λ (o : Outcome). o.reply ∷ replies_of o.state (pokes (a + 16) (drop 16 bytes) n)) first
          ∙ ap (λ rs. Done ∷ rs) rest.made;
    }

-- The peeks and pokes that one read or write replaces.

pub peeks-read : (s : State) (a len n : ℕ) (bytes : List ℕ) → is_lent s.memory a len ≡ true
    → bytes ≡ read_at s.memory a len → a % 16 ≡ 0 → len ≡ 16 * n → PeeksTell s a n bytes
peeks-read s a len n bytes lent is aligned long =
    let all : is_lent s.memory a (16 * n) ≡ true = subst (λ (k : ℕ). is_lent s.memory a k ≡ true) long lent in
    let read : bytes ≡ read_at s.memory a (16 * n) = is ∙ ap (read_at s.memory a) long in
    subst (λ (xs : List ℕ). PeeksTell s a n xs) (sym read) (peeks_tell s a n aligned all)

pub pokes-written : (s t : State) (a n : ℕ) (bytes : List ℕ) → is_lent s.memory a (length bytes) ≡ true
    → t ≡ record s { memory = write_at s.memory a bytes } → a % 16 ≡ 0 → length bytes ≡ 16 * n
    → PokesLead s a n bytes t
pokes-written s t a n bytes lent is aligned long =
    let all : is_lent s.memory a (16 * n) ≡ true = subst (λ (k : ℕ). is_lent s.memory a k ≡ true) long lent in
    subst (λ (u : State). PokesLead s a n bytes u) (sym is) (pokes_lead s a n bytes aligned long all)

-- A range write leaves a device sound.
pub sound-written : (s t : State) (a : ℕ) (bytes : List ℕ) (done : Bool)
    → (done ≡ true → t ≡ record s { memory = write_at s.memory a bytes }) → (done ≡ false → t ≡ s) → IsSound s
    → AreBytes bytes → IsSound t
sound-written s t a bytes true written kept h small =
    subst IsSound (sym (written refl))
    (sound-memory s (write_at s.memory a bytes) h (AreBlocks-write_at s.memory a bytes h.blocks small))
sound-written s t a bytes false written kept h small = subst IsSound (sym (kept refl)) h

-- An exchange leaves a device sound.
pub sound-exchanged : {A E : Type 0} (s t : State) (number : ℕ) (bytes : List ℕ) (result : Result A E)
    → (IsOk result → has_block s.memory number ≡ true)
    → OnOk result (t ≡ record s { memory = map.insert s.memory number bytes }) → OnErr result (t ≡ s) → IsSound s
    → length bytes ≡ 2048 → AreBytes bytes → IsSound t
sound-exchanged s t number bytes (Ok former) lent put kept h size small =
    let block : Block = record { number = number; bytes = bytes } in
    subst IsSound (sym put)
    (sound-memory s (map.insert s.memory number bytes) h (AreBlocks-insert s.memory block h.blocks (record {
      whole = record { size = size; small = small_of_lent s.memory number h.blocks.whole (lent refl) };
      bytes = small;
    })))
sound-exchanged s t number bytes (Err back) lent put kept h size small = subst IsSound (sym kept) h

-- An exchange has the effect of writing the whole block.

whole_put : (xs bs : List ℕ) → length xs ≡ 2048 → length bs ≡ 2048 → put_bytes xs 0 bs ≡ bs
unfolding put_bytes
whole_put xs bs old new = rw (drop_all (0 + length bs) xs (omega (arith, old, new))) (append-nil bs)

all_written : (m : Memory) (number : ℕ) (bytes : List ℕ) → IsWhole m → has_block m number ≡ true → length bytes ≡ 2048
    → map.insert m number bytes ≡ write_at m (2048 * number) bytes
all_written m number bytes whole lent size =
    let here : (xs : List ℕ) × (map.get m number ≡ Some xs) = of_some (map.get m number) lent in
    let old = (whole.block number here.0 here.1).size in
    let at_0 : 2048 * number ≡ 2048 * number + 0 = omega arith in
    sym (ap (λ k. write_at m k bytes) at_0
    ∙ write_at_in m bytes number 0 here.0 here.1 old (omega (arith, size))
    ∙ ap (λ bs. map.insert m number bs) (whole_put here.0 bytes old size))

pub pokes-exchanged : {A E : Type 0} (s t : State) (number : ℕ) (bytes : List ℕ) (result : Result A E)
    → IsWhole s.memory → (IsOk result → has_block s.memory number ≡ true)
    → OnOk result (t ≡ record s { memory = map.insert s.memory number bytes }) → length bytes ≡ 2048 → IsOk result
    → PokesLead s (2048 * number) 128 bytes t
pokes-exchanged s t number bytes (Ok former) whole lent put size ok =
    let aligned : (2048 * number) % 16 ≡ 0 = omega arith in
    pokes-written s t (2048 * number) 128 bytes
    (is_lent_in s.memory (2048 * number) (length bytes) number 0 (lent refl) (omega arith) (omega (arith, size)))
    (put ∙ ap (λ m. record s { memory = m }) (all_written s.memory number bytes whole (lent refl) size)) aligned size
pokes-exchanged s t number bytes (Err back) whole lent put size ok = cc
