-- Lemmas about lending the first block of a packet, given the calls made.
use Rattle.std.proofs.Common.{◌≡◌, ℕ, zero, suc, ◌-◌, ◌<◌, false, All, List, [], ◌∷◌, length, take, get_or, None, Some, Result, Ok, Err, OnOk, OnErr, IfErr, refl, sym, ap, ◌∙◌, subst, arith}
use Rattle.std.proofs.lemmas.List.{take_all}
use Rattle.pmd_access.specs.NicDevice.DmaArena.Block.{Block, IsBlock}
use Rattle.pmd_access.specs.NicDevice.declared.event.Event.TheVariants as event
use Rattle.pmd_access.specs.NicDevice.declared.event.Reply.TheVariants as reply
use Rattle.pmd_access.specs.Bufs.{numbers_of}
use Rattle.pmd_access.specs.DeviceLock.declared.entry.Call.{Call}
use Rattle.pmd_access.specs.declared.fault.PmdFault.{PmdFault}
use Rattle.pmd_access.specs.declared.fault.PmdFault.TheVariants as fault
use Rattle.pmd_access.specs.declared.packet.Packet.{Packet}
use Rattle.pmd_access.specs.Made.{AddsSome}
use Rattle.pmd_access.specs.Asks.{refused_in}
use Rattle.pmd_tx.specs.Acts.{Acts}
use Rattle.pmd_tx.specs.Plays.{AsksNext, PlaysWith, FaultsBy}
use Rattle.pmd_tx.specs.Sends.{IsLate}
use Rattle.pmd_tx.specs.Sending.{Sender, Segment, Accepts, MayAccept, accepted_by, has_lent, is_among, keeps, no_segment, paired, parts_for, parts_in, segments_of}
use Rattle.pmd_tx.specs.Shown.{AllHold, Holds, MayStart, sent_as, IsUnlent, LendsFirst}
use Rattle.pmd_tx.proofs.Playing.{plays_adds, plays_some, faults_at, asks_at}
use Rattle.pmd_tx.proofs.Starting.{firsts-split, length-kept, length-numbers, packet-held, some-parts}

hold-first : (ss : List Segment) (b : Block) (bs : List Block) → AllHold ss (b ∷ bs) → Holds (get_or ss 0 no_segment) b
hold-first [] b bs all = absurd all
hold-first (s ∷ ss) b bs all = all.0

whole-first : (whole n : ℕ) (ns bytes : List ℕ) → 0 < n → 0 < length ns
    → (get_or (paired ns (parts_in whole n bytes)) 0 no_segment).part.whole ≡ whole
whole-first whole zero ns bytes some more = absurd (omega arith)
whole-first whole (suc n) [] bytes some more = absurd (omega arith)
whole-first whole (suc zero) (k ∷ ns) bytes some more = refl
whole-first whole (suc (suc n)) (k ∷ ns) bytes some more = refl

module _ (v : Sender) (p : Packet) (may : MayStart v p) (b : Block) (bs : List Block) (is : p.bufs ≡ b ∷ bs) where
  abbrev first : Segment
  first = get_or (segments_of (sent_as p)) 0 no_segment

  len : length (sent_as p).kept.bytes ≡ p.len
  len = length-kept p may.loose.whole may.held may.long

  count : length (sent_as p).blocks ≡ parts_for p.len
  count = length-numbers p may.loose.whole may.held may.long

  some : 0 < parts_for p.len
  some = some-parts p may.loose.whole may.held may.long

  holds : Holds first b
  holds =
      hold-first (segments_of (sent_as p)) b (take (parts_for p.len - 1) bs)
      (subst (λ (l : List Block). AllHold (segments_of (sent_as p)) l)
      (firsts-split (parts_for p.len) p.bufs bs b is some) (packet-held p may.loose.whole may.held may.long))

  block : IsBlock b
  block =
      let at : All (λ (x : Block). IsBlock x) (b ∷ bs) =
      subst (λ (l : List Block). All (λ (x : Block). IsBlock x) l) is may.loose.whole in
      at 0 b (omega arith)

  away : has_lent v first.block ≡ false
  away =
      let ns : All (λ (n : ℕ). keeps v n ≡ false) (numbers_of (b ∷ bs)) =
      subst (λ (l : List Block). All (λ (n : ℕ). keeps v n ≡ false) (numbers_of l)) is may.loose.away in
      let kept : keeps v b.number ≡ false = ns 0 0 (omega arith) in
      let all : take v.lent v.outstanding ≡ v.outstanding = take_all v.lent v.outstanding (omega (arith, may.lent)) in
      ap (λ (ss : List Segment). is_among v.layout ss first.block) all
      ∙ ap (λ (n : ℕ). keeps v n) (sym holds.number) ∙ kept

  pub may_accept : MayAccept v (sent_as p) b
  may_accept = record {
    long = omega (arith, len, may.long);
    short = omega (arith, len, may.short);
    each = count ∙ ap parts_for (sym len);
    room = omega (arith, count, may.room);
    lent = may.lent;
    asked = may.asked;
    first = record {
      short = omega (
        arith,
        may.short,
        len,
        whole-first (length (sent_as p).kept.bytes) (parts_for (length (sent_as p).kept.bytes)) (sent_as p).blocks
            (sent_as p).kept.bytes (rw len some) (omega (arith, count, some)),
      );
      number = holds.number;
      bytes = holds.bytes;
      whole = block.size;
      low = omega (arith, holds.number, block.small);
      away = away;
    };
  }

module _ (old new : List Call) (v : Sender) (p : Packet) (may : MayStart v p) where
  abbrev blocks : List ℕ
  blocks = (sent_as p).blocks

  lent_plays : (bs : List Block) → p.bufs ≡ bs → LendsFirst old new bs None
      → PlaysWith blocks old v new (accepted_by v (sent_as p))
  lent_plays [] is made = absurd made
  lent_plays (b ∷ bs) is made =
      plays_adds blocks old new v (Accepts (sent_as p)) refl (event.Lend b) reply.Done (may_accept v p may b bs is) refl
      made

  twice_plays : (bs : List Block) (twice : Block) → p.bufs ≡ bs → LendsFirst old new bs (Some twice)
      → PlaysWith blocks old v new v
  twice_plays [] twice is made = absurd made
  twice_plays (b ∷ bs) twice is made =
      plays_adds blocks old new v (Accepts (sent_as p)) refl (event.Lend b) (reply.Twice twice)
      (may_accept v p may b bs is) refl made

  twice_faults : (bs : List Block) (twice : Block) → p.bufs ≡ bs → LendsFirst old new bs (Some twice)
      → FaultsBy fault.DeviceFault blocks old v new
  twice_faults [] twice is made = absurd made
  twice_faults (b ∷ bs) twice is made =
      faults_at blocks old new v (Accepts (sent_as p)) (event.Lend b) (reply.Twice twice)
      (may_accept v p may b bs is) refl made refl

  unlent : (f : PmdFault) (back : Packet) → IsUnlent f old new p back → PlaysWith blocks old v new v
  unlent fault.DeviceFault back (twice, made, numbers) = twice_plays p.bufs twice refl made
  unlent (fault.Call f) back (adds, same) = plays_some blocks old new v adds
  unlent other back failed = absurd failed

  asks_refused : (bs : List Block) → p.bufs ≡ bs → 0 < length bs → AddsSome old new → AsksNext blocks old v new
  asks_refused [] is some adds = absurd (omega arith)
  asks_refused (b ∷ bs) is some adds =
      asks_at blocks old new v (Accepts (sent_as p)) (event.Lend b) (may_accept v p may b bs is) refl refl adds

  lend_faults : (f : PmdFault) (back : Packet) → IsUnlent f old new p back → FaultsBy f blocks old v new
  lend_faults fault.DeviceFault back (twice, made, numbers) = twice_faults p.bufs twice refl made
  lend_faults (fault.Call f) back (adds, same) =
      asks_refused p.bufs refl (omega (arith, may.long, may.held)) adds
  lend_faults other back failed = absurd failed

  lend_late : (f : PmdFault) (back : Packet) → IsUnlent f old new p back → IsLate f
  lend_late fault.DeviceFault back failed = tt
  lend_late (fault.Call f) back failed = tt
  lend_late other back failed = absurd failed

  pub lend_acts : {R : Type 0} → (r : Result R (PmdFault × Packet)) (w : Sender)
      → OnOk r (LendsFirst old new p.bufs None) → OnOk r (w ≡ accepted_by v (sent_as p)) → OnErr r (w ≡ v)
      → IfErr r (λ x. IsUnlent x.0 old new p x.1) → Acts blocks (refused_in r) old v new w
  lend_acts (Ok x) w made is same failed = record {
    plays = subst (PlaysWith blocks old v new) (sym is) (lent_plays p.bufs refl made);
    late = tt;
    faults = tt;
  }
  lend_acts (Err (f, back)) w made is same failed = record {
    plays = subst (PlaysWith blocks old v new) (sym same) (unlent f back failed);
    late = lend_late f back failed;
    faults = lend_faults f back failed;
  }
