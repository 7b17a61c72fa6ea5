-- Lemmas about the driver's state as its fields represent it. The first of the blocks in slots are posted, and the
-- first of the records belong to packets handed out.
use Rattle.std.proofs.Common.{◌≡◌, ℕ, ◌+◌, ◌≤◌, List, [], ◌∷◌, ◌++◌, take, drop, length, refl, sym, ap, ◌∙◌, take-add, drop-drop, arith}
use Rattle.std.proofs.lemmas.List.{take-map, take-append-le, drop-append-le}
use Rattle.pmd_access.specs.NicDevice.DmaArena.Block.{Block}
use Rattle.pmd_access.specs.NicDevice.DmaRing.Driver.{rss_in, hash_in}
use Rattle.pmd_access.specs.NicDevice.DmaRing.Ring.{next_of}
use Rattle.pmd_access.specs.NicDevice.DmaRing.Receive.{bytes_in}
use Rattle.pmd_access.specs.Packet.{Kept}
use Rattle.pmd_access.specs.declared.packet.Packet.{Packet}
use Rattle.pmd_rx.specs.Receive.{Receive, Layout, joined, names, posts, took, records_of, if_any, no_packet}
use Rattle.pmd_rx.specs.Shown.{AreRecords}
use Rattle.pmd_rx.specs.declared.ring.Stage.{Stage}
use Rattle.pmd_rx.specs.declared.ring.Stage.TheVariants.{Looks, Owes, Lent}
use Rattle.pmd_rx.specs.declared.ring.Reported.{Reported}
use Rattle.pmd_rx.proofs.Lists.{take_less, drop_less, records_same}

-- The ring with its slots' blocks and the number of posted ones; the records and the number of those that belong to
-- packets handed out; what is seen, held and complete; and the stage.
abbrev pub shown : Layout → ℕ → List Kept → ℕ → List Reported → Packet → List Packet → Stage → Receive
shown l posted records handed seen held whole s = record {
  layout = record l { blocks = take posted l.blocks };
  handed = take handed records;
  seen = seen;
  held = held;
  whole = whole;
  named = drop posted l.blocks;
  stage = s;
}

-- Two drivers with equal lists are equal.
parts_same : (l : Layout) (bs cs ms ns : List ℕ) (hs ks : List Kept) (seen : List Reported) (p : Packet)
    (ps qs : List Packet) (s : Stage) → bs ≡ cs → hs ≡ ks → ps ≡ qs → ms ≡ ns
    → (let v : Receive = record {
      layout = record l { blocks = bs };
      handed = hs;
      seen = seen;
      held = p;
      whole = ps;
      named = ms;
      stage = s;
    } in v) ≡ record {
      layout = record l { blocks = cs };
      handed = ks;
      seen = seen;
      held = p;
      whole = qs;
      named = ns;
      stage = s;
    }
parts_same l bs cs ms ns hs ks seen p ps qs s blocks handed whole named = rw (blocks, handed, whole, named) refl

-- `n` more blocks are posted, and `m` more packets are handed out.
pub shown_posts : (l : Layout) (posted n more : ℕ) (records : List Kept) (handed m reported : ℕ) (seen : List Reported)
    (held : Packet) (whole left : List Packet) (s : Stage) → AreRecords handed records whole → more ≡ posted + n
    → reported ≡ handed + m → left ≡ drop m whole
    → shown l more records reported seen held left s ≡ posts (shown l posted records handed seen held whole s) n m
shown_posts l posted n more records handed m reported seen held whole left s are further as_many drops =
    parts_same l _ _ _ _ _ _ seen held _ _ s
    (ap (λ (k : ℕ). take k l.blocks) further ∙ take-add posted n l.blocks)
    (ap (λ (k : ℕ). take k records) as_many ∙ take-add handed m records
    ∙ ap (λ (ks : List Kept). take handed records ++ take m ks) are.after
    ∙ ap (λ (ks : List Kept). take handed records ++ ks) (take-map _ m whole))
    drops
    (ap (λ (k : ℕ). drop k l.blocks) further ∙ sym (drop-drop n posted l.blocks))

-- The last part was taken and its replacement named; the packet is complete.
pub shown_names : (l : Layout) (posted n : ℕ) (blocks : List ℕ) (records more : List Kept) (handed : ℕ)
    (seen : List Reported) (held left : Packet) (whole all : List Packet) (s : Stage) → AreRecords handed records whole
    → posted ≤ length l.blocks → s ≡ Lent n → seen ≡ [] → blocks ≡ l.blocks ++ n ∷ [] → left ≡ no_packet
    → all ≡ whole ++ if_any held.bufs held → more ≡ records ++ records_of (if_any held.bufs held)
    → shown (record l { blocks = blocks }) posted more handed seen left all Looks
    ≡ names (shown l posted records handed seen held whole s)
shown_names l posted n blocks records more handed seen held left whole all s are few lent none is empty joins keeps =
    rw (lent, none, empty)
    (parts_same l _ _ _ _ _ _ [] no_packet _ _ Looks
    (ap (λ (bs : List ℕ). take posted bs) is ∙ take-append-le posted l.blocks (n ∷ []) few)
    (records_same handed records more whole (if_any held.bufs held) are keeps)
    joins
    (ap (λ (bs : List ℕ). drop posted bs) is ∙ drop-append-le posted l.blocks (n ∷ []) few))

-- The first slot was consumed, and its part joins the packet being held.
pub shown_took : (l : Layout) (posted left next : ℕ) (blocks : List ℕ) (records : List Kept) (handed : ℕ)
    (seen rest : List Reported) (t : Reported) (held : Packet) (bs : List Block) (b : Block) (len rss hash : ℕ)
    (whole : List Packet) (s : Stage) → seen ≡ t ∷ rest → next ≡ next_of l.size l.next → left + 1 ≡ posted
    → blocks ≡ drop 1 l.blocks → bs ≡ held.bufs ++ b ∷ [] → len ≡ bytes_in t.second → rss ≡ rss_in t.first
    → hash ≡ hash_in t.first
    → shown (record l { next = next; blocks = blocks }) left records handed rest
    (record { bufs = bs; len = held.len + len; rss = rss; hash = hash }) whole Owes
    ≡ took (shown l posted records handed seen held whole s) seen b
shown_took l posted left next blocks records handed seen rest t held bs b len rss hash whole s is below one drops joins
    reported type number =
    rw (is, below, joins, reported, type, number)
    (parts_same (record l { next = next_of l.size l.next }) _ _ _ _ _ _ rest (joined held b t) _ _ Owes
    (ap (λ (xs : List ℕ). take left xs) drops ∙ take_less posted left l.blocks (omega (arith, one)))
    refl
    refl
    (ap (λ (xs : List ℕ). drop left xs) drops ∙ drop_less posted left l.blocks (omega (arith, one))))
