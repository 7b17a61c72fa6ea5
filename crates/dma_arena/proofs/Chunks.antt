use Rattle.std.proofs.Common.{◌≡◌, ℕ, zero, suc, ◌+◌, ◌-◌, ◌*◌, ◌/◌, ◌%◌, ◌<◌, ◌≤◌, Bool, true, false, ◌&&◌, Option, Some, None, List, [], ◌++◌, length, take, drop, refl, sym, ap, ◌∙◌, arith, add-zero, inl, inr}
use Rattle.std.specs.Prelude.{option_map, unwrap_or}
use Rattle.std.specs.FinMap as map
use Rattle.std.proofs.lemmas.Bool.{and_parts, cases_Bool}
use Rattle.std.proofs.lemmas.List.{append_assoc, length-take-le, take-append-drop, length-drop, length-append, drop-take, take-take}
use Rattle.std.proofs.lemmas.Slice.{take-put_mid}
use borrow.Rule.Slice.PartMut.{put_mid}
use Rattle.dma_arena.specs.Block.{Block}
use Rattle.dma_arena.specs.Memory.{Memory, has_block, block_at, is_lent, read_at, write_at, put_bytes, part, IsWhole}
use Rattle.dma_arena.proofs.Bus.{of_some, small_of_lent, SameLent-write_at, is_lent-same, is_lent_first, lent_end, length-read_at}
use Rattle.dma_arena.proofs.Joined.{is_lent-append, write_at-append, read_at-append}
use Rattle.dma_arena.proofs.Blocks.{is_lent_in, read_at_in, write_at_in}

-- A range is processed in chunks, each within one block.

lent_rest : (m : Memory) (a n k : ℕ) → is_lent m a n ≡ true → k ≤ n → is_lent m (a + k) (n - k) ≡ true
lent_rest m a n k lent h =
    let e : n ≡ k + (n - k) = omega arith in
    let f : is_lent m a (k + (n - k)) ≡ true = rw (← e) lent in
    (and_parts (is_lent m a k) _ (sym (is_lent-append m a k (n - k)) ∙ f)).1

lent_more : (m : Memory) (a n k : ℕ) → is_lent m a n ≡ true → is_lent m (a + n) k ≡ true → is_lent m a (n + k) ≡ true
lent_more m a n k p q = rw (is_lent-append m a n k, p, q) refl

and_false : (x : Bool) → (x && false) ≡ false
and_false true = refl
and_false false = refl

lent_none : (m : Memory) (a n k len : ℕ) → n + suc k ≡ len → is_lent m (a + n) (suc k) ≡ false → is_lent m a len ≡ false
lent_none m a n k len e q = rw (← e, is_lent-append m a n (suc k), q) (and_false (is_lent m a n))

-- One chunk: reads and writes within one block.

abbrev block_of : ℕ → Option (List ℕ) → Option Block
block_of q bytes = option_map (λ xs. record { number = q; bytes = xs }) bytes

get-block_at : (m : Memory) (q : ℕ) (b : Block) → block_at m q ≡ Some b → map.get m q ≡ Some b.bytes
get-block_at m q b is = elim (map.get m q) as (λ o. block_of q o ≡ Some b → o ≡ Some b.bytes) [
  | None ↦ λ h. cc
  | Some xs ↦ λ h. ap (option_map (λ (k : Block). k.bytes)) h
] is

pub read_in : (m : Memory) (q : ℕ) (b : Block) (at n : ℕ) → IsWhole m → block_at m q ≡ Some b → at + n ≤ 2048
    → read_at m (2048 * q + at) n ≡ part b.bytes at n
read_in m q b at n whole is room =
    let here = get-block_at m q b is in
    read_at_in m (2048 * q + at) n q at b.bytes here (whole.block q b.bytes here).size refl room

pub written_in : (m n : Memory) (q at : ℕ) (bs : List ℕ) → IsWhole m → has_block m q ≡ true → at + length bs ≤ 2048
    → n ≡ map.insert m q (put_bytes (unwrap_or (map.get m q) []) at bs) → n ≡ write_at m (2048 * q + at) bs
written_in m n q at bs whole has room is =
    let here : (xs : List ℕ) × (map.get m q ≡ Some xs) = of_some (map.get m q) has in
    is ∙ rw here.1 (sym (write_at_in m bs q at here.0 here.1 (whole.block q here.0 here.1).size room))

-- The block of the next chunk is lent.

pub lent_first : (m : Memory) (a n : ℕ) → is_lent m a n ≡ true → 0 < n → has_block m (a / 2048) ≡ true
lent_first m a zero lent some = absurd (omega arith)
lent_first m a (suc n) lent some = is_lent_first m a n lent

pub lent_far : (m : Memory) (a n : ℕ) → IsWhole m → is_lent m a n ≡ true → a < 18446744073709551616
    → a + n < 18446744073709551616
lent_far m a zero whole lent h = omega arith
lent_far m a (suc n) whole lent h = let b = lent_end m a (suc n) whole lent (omega arith) in omega (arith, b)

-- The check of whether a range is lent stops at a block that isn't lent.

not_lent : (m : Memory) (a k : ℕ) → has_block m (a / 2048) ≡ false → is_lent m a (suc k) ≡ false
unfolding is_lent
not_lent m a k gone = rw gone refl

pub missing : (m : Memory) (a done len : ℕ) → done < len → has_block m ((a + done) / 2048) ≡ false
    → is_lent m a len ≡ false
missing m a done len h gone =
    let e : done + suc (len - done - 1) ≡ len = omega arith in
    lent_none m a done (len - done - 1) len e (not_lent m (a + done) (len - done - 1) gone)

pub far_gone : (m : Memory) (q : ℕ) (there : Bool) → IsWhole m → has_block m q ≡ there → 65536 ≤ q → there ≡ false
far_gone m q true whole is far = let low = small_of_lent m q whole is in absurd (omega (arith, low))
far_gone m q false whole is far = refl

-- A range within one block is lent if that block is lent.

one_block_there : (m : Memory) (a n : ℕ) → a % 2048 + n ≤ 2048 → has_block m (a / 2048) ≡ true
    → has_block m (a / 2048) ≡ is_lent m a n
one_block_there m a n room there =
    there ∙ sym (is_lent_in m a n (a / 2048) (a % 2048) there (omega arith) room)

one_block_gone : (m : Memory) (a n : ℕ) → 0 < n → has_block m (a / 2048) ≡ false
    → has_block m (a / 2048) ≡ is_lent m a n
one_block_gone m a n some gone = gone ∙ sym (missing m a 0 n some (rw add-zero gone))

pub one_block : (m : Memory) (a n : ℕ) → 0 < n → a % 2048 + n ≤ 2048 → has_block m (a / 2048) ≡ is_lent m a n
one_block m a n some room = elim (cases_Bool (has_block m (a / 2048))) [
  | inl there ↦ one_block_there m a n room there
  | inr gone ↦ one_block_gone m a n some gone
]

-- The check continues past a block that is lent.

pub here_more : (m : Memory) (a done k : ℕ) → has_block m ((a + done) / 2048) ≡ true
    → (a + done) % 2048 + k ≤ 2048 → is_lent m a done ≡ true → is_lent m a (done + k) ≡ true
here_more m a done k some room lent =
    lent_more m a done k lent
    (is_lent_in m (a + done) k ((a + done) / 2048) ((a + done) % 2048) some (omega arith) room)

-- One chunk is written.

pub lent_step : (m n : Memory) (a at done k len : ℕ) (part : List ℕ) → n ≡ write_at m at part
    → is_lent m (a + done) (len - done) ≡ true → done + k ≤ len
    → is_lent n (a + (done + k)) (len - (done + k)) ≡ true
lent_step m n a at done k len part is lent h =
    let e : (a + done) + k ≡ a + (done + k) = omega arith in
    let f : (len - done) - k ≡ len - (done + k) = omega arith in
    let g : is_lent m (a + (done + k)) (len - (done + k)) ≡ true =
    rw (← e, ← f) (lent_rest m (a + done) (len - done) k lent (omega arith)) in
    rw (is, is_lent-same (write_at m at part) m (SameLent-write_at m at part)) g

pub written_step : (first m n : Memory) (a at done k : ℕ) (bs part : List ℕ) → m ≡ write_at first a (take done bs)
    → n ≡ write_at m at part → at ≡ a + done
    → part ≡ take k (drop done bs) → done + k ≤ length bs → n ≡ write_at first a (take (done + k) bs)
written_step first m n a at done k bs part was is e p h =
    let len : length (take done bs) ≡ done = length-take-le done bs (omega arith) in
    let both : take (done + k) bs ≡ take done bs ++ take k (drop done bs) =
    sym (rw (← drop-take done k bs, ← take-take done (done + k) bs (omega arith))
    (take-append-drop done (take (done + k) bs))) in
    is ∙ rw (was, e, p, both, write_at-append first a (take done bs) (take k (drop done bs)), len) refl

-- One chunk is read.

read_step : (m : Memory) (a at done k end : ℕ) (ys part : List ℕ) → take done ys ≡ read_at m a done
    → part ≡ read_at m at k → at ≡ a + done
    → done ≤ length ys → take (done + k) (put_mid done (end - done) ys part) ≡ read_at m a (done + k)
read_step m a at done k end ys part was is e h =
    let len : length part ≡ k = rw is (length-read_at m at k) in
    take-put_mid done (end - done) ys part (done + k) (rw len refl) h ∙ rw (was, is, e, read_at-append m a done k) refl

length-put_mid : (xs ys : List ℕ) (at end : ℕ) → at ≤ end → end ≤ length xs → length ys ≡ end - at
    → length (put_mid at (end - at) xs ys) ≡ length xs
length-put_mid xs ys at end h room len =
    let front : length (take at xs) ≡ at = length-take-le at xs (omega arith) in
    simp (length-append, length-drop) (omega arith)

pub read_pass : (m : Memory) (a at done k end total : ℕ) (ys part : List ℕ) → total ≡ length ys → end ≡ done + k
    → at ≡ a + done → end ≤ length ys
    → is_lent m (a + done) (length ys - done) ≡ true → take done ys ≡ read_at m a done
    → part ≡ read_at m at (length (take (end - done) (drop done ys)))
    → (end ≤ length (put_mid done (end - done) ys part))
    × (is_lent m (a + end) (length (put_mid done (end - done) ys part) - end) ≡ true)
    × (take end (put_mid done (end - done) ys part) ≡ read_at m a end)
read_pass m a at done k end total ys part t e f h lent was is =
    let size : length (take (end - done) (drop done ys)) ≡ k =
    length-take-le (end - done) (drop done ys) (omega (arith, length-drop done ys)) ∙ omega arith in
    let mine : part ≡ read_at m at k = rw is (rw size refl) in
    let len : length part ≡ end - done = rw mine (length-read_at m at k ∙ omega arith) in
    let whole : length (put_mid done (end - done) ys part) ≡ length ys =
    length-put_mid ys part done end (omega arith) h len in
    let a1 : (a + done) + k ≡ a + end = omega arith in
    let a2 : (length ys - done) - k ≡ length ys - end = omega arith in
    let rest : is_lent m (a + end) (length ys - end) ≡ true =
    rw (← a1, ← a2) (lent_rest m (a + done) (length ys - done) k lent (omega arith)) in
    (rw whole h, rw whole rest, rw e (read_step m a at done k (done + k) ys part was mine f (omega arith)))

-- One chunk is appended.

pub lent_next : (m : Memory) (a done k len : ℕ) → is_lent m (a + done) (len - done) ≡ true → done + k ≤ len
    → is_lent m (a + (done + k)) (len - (done + k)) ≡ true
lent_next m a done k len lent h =
    let e : (a + done) + k ≡ a + (done + k) = omega arith in
    let f : (len - done) - k ≡ len - (done + k) = omega arith in
    rw (← e, ← f) (lent_rest m (a + done) (len - done) k lent (omega arith))

pub length-appended : (m : Memory) (at k : ℕ) (was now : List ℕ) → now ≡ was ++ read_at m at k
    → length now ≡ length was + k
length-appended m at k was now is = rw (is, length-append was (read_at m at k), length-read_at m at k) refl

pub append_step : (m : Memory) (a at done k : ℕ) (first was now : List ℕ) → was ≡ first ++ read_at m a done
    → now ≡ was ++ read_at m at k → at ≡ a + done → now ≡ first ++ read_at m a (done + k)
append_step m a at done k first was now w n e =
    n ∙ rw (w, e, read_at-append m a done k) (append_assoc first (read_at m a done) (read_at m (a + done) k))
