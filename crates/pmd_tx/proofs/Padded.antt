-- Lemmas about what padding does to a packet's bytes.
use Rattle.std.proofs.Common.{◌≡◌, ℕ, zero, suc, ◌+◌, ◌-◌, ◌*◌, ◌<◌, ◌≤◌, nat_lt, All, List, [], ◌∷◌, ◌++◌, length, take, drop, replicate, Option, refl, sym, ap, ◌∙◌, subst, arith, inl, inr}
use Rattle.std.proofs.lemmas.Bool.{cases_Bool}
use Rattle.std.proofs.lemmas.Bool.Decides.{nat_tests}
use Rattle.std.proofs.lemmas.List.{append-nil, length-append, length-take-le, length-replicate, take_at, take-append-le, drop_at, take-append-drop}
use Rattle.pmd_access.proofs.NicDevice.DmaArena.Bytes.{length-put_bytes}
use Rattle.pmd_access.specs.NicDevice.DmaArena.Block.{Block, IsBlock}
use Rattle.pmd_access.specs.NicDevice.DmaArena.Memory.{put_bytes}
use Rattle.pmd_access.specs.Bufs.{bytes_of, numbers_of}
use Rattle.pmd_access.specs.DeviceLock.declared.entry.Call.{Call}
use Rattle.pmd_access.specs.Packet.{kept_of}
use Rattle.pmd_access.specs.declared.packet.Packet.{Packet}
use Rattle.pmd_access.specs.declared.fault.PmdFault.{PmdFault}
use Rattle.pmd_access.specs.declared.fault.PmdFault.TheVariants.{DeviceFault}
use Rattle.pmd_tx.specs.Padding.{first_bytes, padded_packet, unpadded, with_first}
use Rattle.pmd_tx.specs.Acts.{Acts}
use Rattle.pmd_tx.specs.Sending.{Outgoing, Sender, parts_for}
use Rattle.pmd_tx.specs.Sends.{accepted_of, outgoing_of, padded, IsBack}
use Rattle.pmd_tx.specs.Shown.{sent_as, MaySend, MayStart}
use Rattle.pmd_tx.proofs.Starting.{length-blocks}

abbrev zeros : ℕ → List ℕ
zeros len = replicate (60 - len) 0

module _ (bs : List ℕ) (len : ℕ) (whole : length bs ≡ 2048) (short : len < 60) where
  start : length (take len bs) ≡ len
  start = length-take-le len bs (omega arith)

  front : length (take len bs ++ zeros len) ≡ 60
  front = omega (arith, length-append (take len bs) (zeros len), length-replicate {A = ℕ} (60 - len) 0, start)

  -- The first 60 bytes are the packet's, followed by zeros.
  padded-take : take 60 (put_bytes bs len (zeros len)) ≡ take len bs ++ replicate (60 - length (take len bs)) 0
  unfolding put_bytes
  padded-take =
      take_at (take len bs ++ zeros len) (drop (len + length (zeros len)) bs) 60 front
      ∙ ap (λ (n : ℕ). take len bs ++ replicate (60 - n) 0) (sym start)

  -- The bytes at index 60 and later are unchanged.
  after : drop 60 (put_bytes bs len (zeros len)) ≡ drop 60 bs
  unfolding put_bytes
  after =
      let end : len + length (zeros len) ≡ 60 = omega (arith, length-replicate {A = ℕ} (60 - len) 0) in
      drop_at (take len bs ++ zeros len) (drop (len + length (zeros len)) bs) 60 front
      ∙ ap (λ (n : ℕ). drop n bs) end

  unpadded-bytes : put_bytes (put_bytes bs len (zeros len)) 0 (take 60 bs) ≡ bs
  unfolding put_bytes
  unpadded-bytes =
      let sixty : 0 + length (take 60 bs) ≡ 60 = omega (arith, length-take-le 60 bs (omega (arith, whole))) in
      ap (λ (n : ℕ). take 60 bs ++ drop n (put_bytes bs len (zeros len))) sixty
      ∙ ap (λ (l : List ℕ). take 60 bs ++ l) after
      ∙ take-append-drop 60 bs

  long-put : length (put_bytes bs len (zeros len)) ≡ 2048
  long-put =
      length-put_bytes bs len (zeros len)
      (omega (arith, whole, length-replicate {A = ℕ} (60 - len) 0)) ∙ whole

-- Padding keeps the block numbers.

numbers-first : (bs : List Block) (at : ℕ) (bytes : List ℕ) → numbers_of (with_first bs at bytes) ≡ numbers_of bs
numbers-first [] at bytes = refl
numbers-first (b ∷ bs) at bytes = refl

pub numbers-drop : (n : ℕ) (bs : List Block) → numbers_of (drop n bs) ≡ drop n (numbers_of bs)
numbers-drop zero [] = refl
numbers-drop (suc n) [] = refl
numbers-drop zero (b ∷ bs) = refl
numbers-drop (suc n) (b ∷ bs) = numbers-drop n bs

count-first : (bs : List Block) (at : ℕ) (bytes : List ℕ) → length (with_first bs at bytes) ≡ length bs
count-first [] at bytes = refl
count-first (b ∷ bs) at bytes = refl

-- Lemmas about a nonempty packet in whole blocks that have room for it.
module _ (p : Packet) (whole : All (λ (b : Block). IsBlock b) p.bufs) (some : 0 < p.len)
    (held : p.len ≤ 2048 * length p.bufs)
  where
    below-none : (xs : List ℕ) → 60 ≤ length xs → padded xs ≡ xs
    below-none xs long = let none : 60 - length xs ≡ 0 = omega arith in rw none (append-nil xs)

    bytes-long : length (take p.len (bytes_of p.bufs)) ≡ p.len
    bytes-long = length-take-le p.len (bytes_of p.bufs) (omega (arith, length-blocks p.bufs whole, held))

    -- Lemmas about the first block of a packet that is padded.
    module _ (short : p.len < 60) (b : Block) (bs : List Block) (is : p.bufs ≡ b ∷ bs) where
      size : length b.bytes ≡ 2048
      size =
          let at : All (λ (x : Block). IsBlock x) (b ∷ bs) =
          subst (λ (l : List Block). All (λ (x : Block). IsBlock x) l) is whole in
          (at 0 b (omega arith)).size

      pub kept-short : take 60 (bytes_of (with_first (b ∷ bs) p.len (zeros p.len)))
          ≡ padded (take p.len (bytes_of (b ∷ bs)))
      kept-short =
          let long = long-put b.bytes p.len size short in
          take-append-le 60 (put_bytes b.bytes p.len (zeros p.len)) (bytes_of bs) (omega (arith, long))
          ∙ padded-take b.bytes p.len size short
          ∙ sym (ap padded (take-append-le p.len b.bytes (bytes_of bs) (omega (arith, size, short))))

    short-by : (bs : List Block) → p.bufs ≡ bs → p.len < 60
        → take 60 (bytes_of (with_first bs p.len (zeros p.len))) ≡ padded (take p.len (bytes_of bs))
    short-by [] is short = absurd (omega (arith, some, held, ap length is))
    short-by (b ∷ bs) is short = kept-short short b bs is

    -- The record of the padded packet is the accepted packet's record, and both packets are in the same blocks.

    pub kept_padded : kept_of (padded_packet p) ≡ accepted_of p
    kept_padded = elim (cases_Bool (nat_lt p.len 60)) [
      | inl is ↦
          let short : p.len < 60 = grind (arith, nat_tests, is) in
          rw is
          (ap (λ (bytes : List ℕ). record { bytes = bytes; rss = p.rss; hash = p.hash }) (short-by p.bufs refl short))
      | inr is ↦
          let long : 60 ≤ p.len = grind (arith, nat_tests, is) in
          rw is
          (ap (λ (bytes : List ℕ). record { bytes = bytes; rss = p.rss; hash = p.hash })
          (sym (below-none (take p.len (bytes_of p.bufs)) (omega (arith, bytes-long, long)))))
    ]

    blocks_padded : (sent_as (padded_packet p)).blocks ≡ (outgoing_of p).blocks
    blocks_padded = elim (cases_Bool (nat_lt p.len 60)) [
      | inl is ↦
          let short : p.len < 60 = grind (arith, nat_tests, is) in
          let one : parts_for p.len ≡ 1 = omega (arith, some, short) in
          rw (is, numbers-first p.bufs p.len (zeros p.len), one) refl
      | inr is ↦ rw is refl
    ]

    pub sent_padded : sent_as (padded_packet p) ≡ outgoing_of p
    sent_padded = λ k. record { blocks = blocks_padded k; kept = kept_padded k }

    whole-first : (bs : List Block) → p.len < 60 → All (λ (b : Block). IsBlock b) bs
        → All (λ (b : Block). IsBlock b) (with_first bs p.len (zeros p.len))
    whole-first [] short are k d below = absurd (omega arith)
    whole-first (b ∷ bs) short are zero d below =
        let at = are 0 b (omega arith) in
        record { size = long-put b.bytes p.len at.size short; small = at.small }
    whole-first (b ∷ bs) short are (suc k) d below = are (suc k) d (omega arith)

    -- The padded packet may be accepted.
    pub padded_acts : {f : Option PmdFault} {old new : List Call} {v w : Sender} (q : Packet) → q ≡ padded_packet p
        → Acts (sent_as q).blocks f old v new w → Acts (outgoing_of p).blocks f old v new w
    padded_acts {f} {old} {new} {v} {w} q is acts =
        subst (λ (o : Outgoing). Acts o.blocks f old v new w) (ap sent_as is ∙ sent_padded) acts

    pub padded_may : (v : Sender) → MaySend v p → 60 ≤ v.layout.limit → v.lent ≡ length v.outstanding
        → v.poked ≡ length v.outstanding → MayStart v (padded_packet p)
    padded_may v may least lent asked = elim (cases_Bool (nat_lt p.len 60)) [
      | inl is ↦
          let short : p.len < 60 = grind (arith, nat_tests, is) in
          let one : parts_for p.len ≡ 1 = omega (arith, some, short) in
          let numbers = numbers-first p.bufs p.len (zeros p.len) in
          rw is (record {
            long = omega arith;
            short = least;
            held = omega (arith, some, held, count-first p.bufs p.len (zeros p.len));
            room = omega (arith, may.room, one);
            lent = lent;
            asked = asked;
            loose = record {
              whole = whole-first p.bufs short whole;
              apart = rw numbers may.loose.apart;
              away = rw numbers may.loose.away;
            };
          })
      | inr is ↦
          let long : 60 ≤ p.len = grind (arith, nat_tests, is) in
          rw is (record {
            long = long;
            short = may.short;
            held = may.held;
            room = may.room;
            lent = lent;
            asked = asked;
            loose = may.loose;
          })
    ]

    -- The same Bufs contain none of the packet's bytes before and after padding.
    pub parts_padded : parts_for (padded_packet p).len ≡ parts_for p.len
    parts_padded = elim (cases_Bool (nat_lt p.len 60)) [
      | inl is ↦
          let short : p.len < 60 = grind (arith, nat_tests, is) in
          let one : parts_for p.len ≡ 1 = omega (arith, some, short) in
          rw (is, one) refl
      | inr is ↦ rw is refl
    ]

    pub numbers_padded : numbers_of (padded_packet p).bufs ≡ numbers_of p.bufs
    numbers_padded = elim (cases_Bool (nat_lt p.len 60)) [
      | inl is ↦ rw is (numbers-first p.bufs p.len (zeros p.len))
      | inr is ↦ rw is refl
    ]

    -- Undoing the padding restores the packet.

    undone-by : (bs : List Block) → p.bufs ≡ bs → p.len < 60
        → with_first (with_first bs p.len (zeros p.len)) 0 (first_bytes bs) ≡ bs
    undone-by [] is short = refl
    undone-by (b ∷ bs) is short =
        ap (λ (bytes : List ℕ). record { number = b.number; bytes = bytes } ∷ bs)
        (unpadded-bytes b.bytes p.len (size short b bs is) short)

    pub unpadded-padded : unpadded (padded_packet p) p.len (first_bytes p.bufs) ≡ p
    unpadded-padded = elim (cases_Bool (nat_lt p.len 60)) [
      | inl is ↦
          let short : p.len < 60 = grind (arith, nat_tests, is) in
          rw is (ap (λ (bs : List Block). record p { bufs = bs }) (undone-by p.bufs refl short))
      | inr is ↦ rw is refl
    ]

    unpadded-numbers : (q : Packet) (start : List ℕ) → numbers_of (unpadded q p.len start).bufs ≡ numbers_of q.bufs
    unpadded-numbers q start = elim (cases_Bool (nat_lt p.len 60)) [
      | inl is ↦ rw is (numbers-first q.bufs 0 start)
      | inr is ↦ rw is refl
    ]

    pub back_undone : (f : PmdFault) (q back undone : Packet) (first : List ℕ) → q ≡ padded_packet p
        → first ≡ first_bytes p.bufs → IsBack f q back → undone ≡ unpadded back p.len first → IsBack f p undone
    back_undone DeviceFault q back undone first padded is came done =
        ap (λ (x : Packet). numbers_of x.bufs) done ∙ unpadded-numbers back first ∙ came
        ∙ ap (λ (x : Packet). numbers_of x.bufs) padded ∙ numbers_padded
    back_undone other q back undone first padded is came done =
        done ∙ ap (λ (x : Packet). unpadded x p.len first) (came ∙ padded)
        ∙ ap (λ (l : List ℕ). unpadded (padded_packet p) p.len l) is
        ∙ unpadded-padded
