-- Proves that the ring's invariants still hold after a part is seen or joins the held packet, a block is named, or the
-- tail advances.
use Rattle.std.proofs.Common.{◌≡◌, ℕ, suc, ◌+◌, ◌-◌, ◌<◌, ◌≤◌, ◌⊎◌, inl, inr, Bool, true, false, if◌then◌else◌, List, [], ◌∷◌, ◌++◌, length, drop, refl, sym, ap, subst, ◌∙◌, arith}
use Rattle.std.proofs.lemmas.List.{length_push, length-drop, length-append, length-map}
use Rattle.std.proofs.lemmas.List.Elements.{All-append, All-push, All-drop}
use Rattle.std.specs.Prelude.{All, ◌==◌, ◌&&◌, nat_le, nat_lt}
use Rattle.std.proofs.lemmas.Bool.{cases_Bool, and_parts}
use Rattle.std.proofs.lemmas.Bool.Decides.{nat_tests}
use Rattle.pmd_access.specs.NicDevice.DmaArena.Block.{Block}
use Rattle.pmd_access.specs.NicDevice.DmaRing.Receive.{bytes_in, ends_packet}
use Rattle.pmd_access.specs.Bufs.{numbers_of}
use Rattle.pmd_access.specs.declared.packet.Packet.{Packet}
use Rattle.pmd_rx.specs.Burst.{HasPart}
use Rattle.pmd_rx.specs.Keeping.{vacated, numbers_of_all}
use Rattle.pmd_rx.specs.Receive.{Layout, no_packet, if_any, is_part, parts_first}
use Rattle.pmd_rx.specs.Shown.{FitsBlock, StandsAt, IsSteady}
use Rattle.pmd_rx.specs.declared.ring.Stage.{Stage}
use Rattle.pmd_rx.specs.declared.ring.Stage.TheVariants.{Looks, Takes, Owes, Lent}
use Rattle.pmd_rx.specs.declared.ring.Reported.{Reported}
use Rattle.pmd_rx.proofs.Keeping.{part_more}
use Rattle.pmd_rx.proofs.Lists.{all-append}

fewer : (seen : List Reported) (t : Reported) (rest : List Reported) → seen ≡ t ∷ rest → length rest + 1 ≡ length seen
fewer seen t rest is = omega (arith, ap length is)

pub joined_steady : (l : Layout) (posted : ℕ) (seen : List Reported) (p : Packet) (whole : List Packet) (s : Stage)
    (t : Reported) (rest : List Reported) (next : ℕ) (blocks : List ℕ) (left : ℕ) (bs : List Block) (b : Block)
    (len rss hash : ℕ) → IsSteady l posted seen p whole s → s ≡ Takes → seen ≡ t ∷ rest → next < l.size
    → blocks ≡ drop 1 l.blocks → left + 1 ≡ posted → len ≡ bytes_in t.second → bs ≡ p.bufs ++ b ∷ []
    → IsSteady (record l { next = next; blocks = blocks }) left rest
    (record { bufs = bs; len = p.len + len; rss = rss; hash = hash }) whole Owes
joined_steady l posted seen p whole s t rest next blocks left bs b len rss hash (laid, step) takes is below drops
    one reported joins =
    let both : All FitsBlock (t ∷ rest) = subst (λ (ts : List Reported). All FitsBlock ts) is step.parts in
    let fits : bytes_in t.second ≤ 2048 = both 0 t (omega arith) in
    let less : length blocks ≡ length (drop 1 l.blocks) = ap (λ (xs : List ℕ). length xs) drops in
    let many : length bs ≡ length p.bufs + 1 = ap (λ (xs : List Block). length xs) joins ∙ length_push p.bufs b in (
      record {
        some = laid.some;
        few = laid.few;
        one_part = laid.one_part;
        few_parts = laid.few_parts;
        next = below;
        ring = laid.ring;
        room = omega (arith, laid.room, less, length-drop 1 l.blocks);
      },
      record {
        stage = tt;
        few = omega (arith, step.few, fewer seen t rest is, many);
        bytes = omega (arith, step.bytes, fits, reported, many);
        parts = λ k d i. both (suc k) d (omega (arith, i));
        within = omega (arith, step.within, fewer seen t rest is, one);
        some = step.some;
        replaced = omega (arith, step.replaced, less, length-drop 1 l.blocks, one);
        taken = omega (arith, step.taken, ap vacated takes, less, length-drop 1 l.blocks, one, many);
      },
    )

-- One more part is seen.

part_fits : (most before second : ℕ) → is_part most before second ≡ true → (ends_packet second ≡ true)
    ⊎ (ends_packet second ≡ false) → bytes_in second ≤ 2048
part_fits most before second part (inl ends) =
    let fits : nat_le (bytes_in second) 2048 ≡ true = rw ends at part in
    grind (arith, nat_tests)
part_fits most before second part (inr on) =
    let both : (bytes_in second == 2048 && nat_lt (before + 1) most) ≡ true = rw on at part in
    grind (arith, nat_tests, (and_parts (bytes_in second == 2048) (nat_lt (before + 1) most) both).0)

seen_stands : (l : Layout) (seen more : List Reported) (p : Packet) (most before second : ℕ) → l.most ≡ most
    → length more ≡ before + 1 → is_part most before second ≡ true → p ≡ no_packet
    → (ends_packet second ≡ true) ⊎ (ends_packet second ≡ false)
    → StandsAt (if ends_packet second then Takes else Looks) l more p
seen_stands l seen more p most before second is many part none (inl ends) = rw ends (omega (arith, many))
seen_stands l seen more p most before second is many part none (inr on) =
    rw on (none, omega (arith, many, is, part_more most before second part on))

vacated_seen : (ends : Bool) → vacated (if ends then Takes else Looks) ≡ 0
vacated_seen true = refl
vacated_seen false = refl

pub seen_steady : (l : Layout) (posted : ℕ) (seen more : List Reported) (p : Packet) (whole : List Packet)
    (s next : Stage)
    (t : Reported) → IsSteady l posted seen p whole s → s ≡ Looks → more ≡ seen ++ t ∷ []
    → next ≡ (if ends_packet t.second then Takes else Looks) → is_part l.most (length seen) t.second ≡ true
    → length seen < posted → IsSteady l posted more p whole next
seen_steady l posted seen more p whole s next t (laid, step) looks is leads part below =
    let stands : StandsAt Looks l seen p = subst (λ (x : Stage). StandsAt x l seen p) looks step.stage in
    let many : length more ≡ length seen + 1 = ap (λ (ts : List Reported). length ts) is ∙ length_push seen t in
    let ends = cases_Bool (ends_packet t.second) in
    let none : length p.bufs ≡ 0 = ap (λ (x : Packet). length x.bufs) stands.0 in
    let owed : vacated next ≡ 0 = ap vacated leads ∙ vacated_seen (ends_packet t.second) in
    let old : vacated s ≡ 0 = ap vacated looks in (
      laid,
      record {
        stage = rw leads (seen_stands l seen more p l.most (length seen) t.second refl many part stands.0 ends);
        few = omega (arith, many, none, stands.1);
        bytes = step.bytes;
        parts = subst (λ (ts : List Reported). All FitsBlock ts) (sym is)
            (All-push FitsBlock seen t step.parts (part_fits l.most (length seen) t.second part ends));
        within = omega (arith, many, below);
        some = step.some;
        replaced = step.replaced;
        taken = omega (arith, step.taken, old, owed);
      },
    )

-- Lemmas about naming a block when the packet's last part has been taken.

any_part : (bs : List Block) (p : Packet) → p.bufs ≡ bs → All HasPart (if_any bs p)
any_part [] p is = λ k d i. absurd (omega (arith, i))
any_part (b ∷ bs) p is =
    All-push HasPart [] p (λ k d i. absurd (omega (arith, i))) (omega (arith, ap (λ (xs : List Block). length xs) is))

any_count : (bs : List Block) (p : Packet) → p.bufs ≡ bs → length (numbers_of_all (if_any bs p)) ≡ length p.bufs
any_count [] p is = rw is refl
any_count (b ∷ bs) p is =
    omega (
      arith,
      length-append (numbers_of p.bufs) [],
      length-map p.bufs (λ (x : Block). x.number),
    )

pub named_steady : (l : Layout) (posted : ℕ) (seen : List Reported) (p q : Packet) (whole more : List Packet)
    (s : Stage)
    (n : ℕ) (blocks : List ℕ) → IsSteady l posted seen p whole s → s ≡ Lent n → length seen ≡ 0
    → blocks ≡ l.blocks ++ n ∷ [] → q ≡ no_packet → more ≡ whole ++ if_any p.bufs p
    → IsSteady (record l { blocks = blocks }) posted seen q more Looks
named_steady l posted seen p q whole more s n blocks (laid, step) lent none is empty joins =
    let stands : StandsAt (Lent n) l seen p = subst (λ (t : Stage). StandsAt t l seen p) lent step.stage in
    let many : length blocks ≡ length l.blocks + 1 = ap (λ (xs : List ℕ). length xs) is ∙ length_push l.blocks n in
    let held : length q.bufs ≡ 0 = ap (λ (x : Packet). length x.bufs) empty in
    let len : q.len ≡ 0 = ap (λ (x : Packet). x.len) empty in
    let all : length (numbers_of_all more) ≡ length (numbers_of_all whole) + length p.bufs =
    omega (
      arith,
      ap (λ (ps : List Packet). length (numbers_of_all ps)) joins,
      ap (λ (ns : List ℕ). length ns) (all-append whole (if_any p.bufs p)),
      length-append (numbers_of_all whole) (numbers_of_all (if_any p.bufs p)),
      any_count p.bufs p refl,
    ) in (
      record {
        some = laid.some;
        few = laid.few;
        one_part = laid.one_part;
        few_parts = laid.few_parts;
        next = laid.next;
        ring = laid.ring;
        room = omega (arith, stands.0, many);
      },
      record {
        stage = (empty, omega (arith, none, laid.one_part));
        few = omega (arith, held, none);
        bytes = omega (arith, held, len);
        parts = step.parts;
        within = step.within;
        some = subst (λ (ps : List Packet). All HasPart ps) (sym joins)
            (All-append HasPart whole (if_any p.bufs p) step.some (any_part p.bufs p refl));
        replaced = omega (arith, step.taken, ap vacated lent, many, all);
        taken = omega (arith, step.taken, ap vacated lent, many, all, held);
      },
    )

-- The number of slots with a block that are posted.
pub posted_few : (l : Layout) (posted : ℕ) (seen : List Reported) (p : Packet) (whole : List Packet) (s : Stage)
    → IsSteady l posted seen p whole s → posted ≤ length l.blocks
posted_few l posted seen p whole s (laid, step) = omega (arith, step.replaced)

pub posted_some : (l : Layout) (posted : ℕ) (seen : List Reported) (p : Packet) (whole : List Packet) (s : Stage)
    (t : Reported)
    (rest : List Reported) → IsSteady l posted seen p whole s → seen ≡ t ∷ rest → posted - 1 + 1 ≡ posted
posted_some l posted seen p whole s t rest (laid, step) is = omega (arith, step.within, fewer seen t rest is)

first_count : (p : Packet) (left : List Packet)
    → length (numbers_of_all (p ∷ left)) ≡ length p.bufs + length (numbers_of_all left)
first_count p left =
    omega (
      arith,
      length-append (numbers_of p.bufs) (numbers_of_all left),
      length-map p.bufs (λ (x : Block). x.number),
    )

-- If a packet is complete, at least one block is named that isn't posted yet.

some_parts : (whole : List Packet) → 0 < length whole → All HasPart whole → 0 < length (numbers_of_all whole)
some_parts [] some all = absurd (omega (arith, some))
some_parts (p ∷ whole) some all = omega (arith, first_count p whole, all 0 p (omega arith))

pub some_named : (l : Layout) (posted : ℕ) (seen : List Reported) (p : Packet) (whole : List Packet) (s : Stage)
    → IsSteady l posted seen p whole s → 0 < length whole → 0 < length (drop posted l.blocks)
some_named l posted seen p whole s (laid, step) some =
    omega (arith, step.replaced, some_parts whole some step.some, length-drop posted l.blocks)

first_named : (whole : List Packet) → parts_first whole ≤ length (numbers_of_all whole)
first_named [] = omega arith
first_named (p ∷ whole) = omega (arith, first_count p whole)

pub parts_named : (l : Layout) (posted : ℕ) (seen : List Reported) (p : Packet) (whole : List Packet) (s : Stage)
    → IsSteady l posted seen p whole s → parts_first whole ≤ length (drop posted l.blocks)
parts_named l posted seen p whole s (laid, step) =
    omega (arith, step.replaced, first_named whole, length-drop posted l.blocks)

-- The tail advances.

pub one_steady : (l : Layout) (posted more : ℕ) (seen : List Reported) (p : Packet) (whole left : List Packet)
    (s : Stage)
    (first : Packet) → IsSteady l posted seen p whole s → whole ≡ first ∷ left → more ≡ length first.bufs
    → IsSteady l (posted + more) seen p left s
one_steady l posted more seen p whole left s first (laid, step) is many =
    let count : length (numbers_of_all whole) ≡ length first.bufs + length (numbers_of_all left) =
    ap (λ (ps : List Packet). length (numbers_of_all ps)) is ∙ first_count first left in
    let all : All HasPart (first ∷ left) = subst (λ (ps : List Packet). All HasPart ps) is step.some in (
      laid,
      record {
        stage = step.stage;
        few = step.few;
        bytes = step.bytes;
        parts = step.parts;
        within = omega (arith, step.within);
        some = All-drop HasPart 1 (first ∷ left) all;
        replaced = omega (arith, step.replaced, count, many);
        taken = omega (arith, step.taken, count, many);
      },
    )

pub all_steady : (l : Layout) (posted more : ℕ) (seen : List Reported) (p : Packet) (whole left : List Packet)
    (s : Stage)
    → IsSteady l posted seen p whole s → length p.bufs ≡ 0 → more ≡ length l.blocks → left ≡ []
    → IsSteady l more seen p left s
all_steady l posted more seen p whole left s (laid, step) none all is =
    let count : length (numbers_of_all left) ≡ 0 = ap (λ (ps : List Packet). length (numbers_of_all ps)) is in (
      laid,
      record {
        stage = step.stage;
        few = step.few;
        bytes = step.bytes;
        parts = step.parts;
        within = omega (arith, step.within, step.replaced, all);
        some = λ k d i. absurd (omega (arith, i, ap (λ (ps : List Packet). length ps) is));
        replaced = omega (arith, count, all);
        taken = omega (arith, count, all, none);
      },
    )
