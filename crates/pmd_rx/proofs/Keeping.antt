-- Proves what each step preserves: the blocks' locations and the ring. A running driver keeps running.
use Rattle.std.proofs.Common.{◌≡◌, ℕ, ◌+◌, ◌<◌, Bool, true, false, List, [], ◌∷◌, ◌++◌, length, get_or, drop, refl, sym, ap, subst, ◌∙◌, arith, cond}
use Rattle.std.specs.Prelude.{◌==◌, ◌&&◌, nat_lt}
use Rattle.std.proofs.lemmas.Bool.{and_parts}
use Rattle.std.proofs.lemmas.Bool.Decides.{nat_tests}
use Rattle.std.proofs.lemmas.List.{length_push, length-append, length-map}
use Rattle.pmd_access.specs.NicDevice.DmaArena.Block.{Block}
use Rattle.pmd_access.specs.NicDevice.DmaArena.Numbers.{Numbers}
use Rattle.pmd_access.specs.NicDevice.DmaArena.Whereabouts.{times_in_hand}
use Rattle.pmd_access.specs.NicDevice.DmaRing.Descriptor.{second_half}
use Rattle.pmd_access.specs.NicDevice.DmaRing.Receive.{ends_packet, bytes_in}
use Rattle.pmd_access.specs.Bufs.{numbers_of}
use Rattle.pmd_access.specs.DeviceLock.declared.entry.Call.{Call}
use Rattle.pmd_access.specs.Slots.{ring_blocks}
use Rattle.pmd_access.proofs.Exchanging.{exchanges_both}
use Rattle.pmd_access.proofs.Drawing.{numbers-more}
use Rattle.pmd_access.proofs.Outside.{times-append, times-cons}
use Rattle.pmd_rx.specs.Keeping.{Keeps, IsDuring, IsSameRing, fresh_block, vacated, lent_of, blocks_held, blocks_out, numbers_of_all}
use Rattle.pmd_rx.specs.Receive.{Receive, Layout, TakesNext, block_at, saw, reported_by, took, is_part}
use Rattle.pmd_rx.specs.Shown.{IsLook}
use Rattle.pmd_rx.specs.declared.receive.Look.{Look}
use Rattle.pmd_rx.specs.declared.receive.Look.TheVariants as look
use Rattle.pmd_rx.specs.declared.ring.Stage.{Stage}
use Rattle.pmd_rx.specs.declared.ring.Stage.TheVariants.{Looks, Takes, Owes}
use Rattle.pmd_rx.specs.declared.ring.Reported.{Reported}

-- How often a block is out, by its location.
pub times_out : (v : Receive) (k : ℕ)
    → times_in_hand (blocks_out v) k ≡ times_in_hand v.layout.blocks k + times_in_hand v.named k
    + (times_in_hand (fresh_block v.stage) k + times_in_hand (ring_blocks v.layout.ring v.layout.size) k)
    + (times_in_hand (numbers_of_all v.whole) k + times_in_hand (numbers_of v.held.bufs) k)
times_out v k =
    let l = v.layout in
    omega (
      arith,
      times-append (lent_of v) (blocks_held v) k,
      times-append (l.blocks ++ v.named) (fresh_block v.stage ++ ring_blocks l.ring l.size) k,
      times-append l.blocks v.named k,
      times-append (fresh_block v.stage) (ring_blocks l.ring l.size) k,
      times-append (numbers_of_all v.whole) (numbers_of v.held.bufs) k,
    )

-- The number of blocks that the driver's packets occupy.
pub held_count : (v : Receive) → length (blocks_held v) ≡ length (numbers_of_all v.whole) + length v.held.bufs
held_count v =
    omega (
      arith,
      length-append (numbers_of_all v.whole) (numbers_of v.held.bufs),
      length-map v.held.bufs (λ (b : Block). b.number),
    )

pub same_ring : (l : Layout) → IsSameRing l l
same_ring l = record { port = refl; tail = refl; ring = refl; size = refl; most = refl }

-- `Keeps` is true if nothing changed. If it is true of a call and of the next call, it is true of both together.

pub keeps_none : (a : Numbers) (v : Receive) → Keeps a v a v []
keeps_none a v = record { arena = ([], refl, λ k. refl); ring = same_ring v.layout; running = λ runs. runs }

pub keeps_both : (a b d : Numbers) (v w x : Receive) (out : List ℕ) → Keeps a v b w [] → Keeps b w d x out
    → Keeps a v d x out
keeps_both a b d v w x out p q = record {
  arena = exchanges_both a b d (blocks_out v) (blocks_out w) (out ++ blocks_out x) p.arena q.arena;
  ring = record {
    port = q.ring.port ∙ p.ring.port;
    tail = q.ring.tail ∙ p.ring.tail;
    ring = q.ring.ring ∙ p.ring.ring;
    size = q.ring.size ∙ p.ring.size;
    most = q.ring.most ∙ p.ring.most;
  };
  running = λ runs. q.running (p.running runs);
}

pub keeps_to : (a b : Numbers) (v w x : Receive) (out : List ℕ) → x ≡ w → Keeps a v b w out → Keeps a v b x out
keeps_to a b v w x out same keeps = subst (λ (y : Receive). Keeps a v b y out) (sym same) keeps

-- A look preserves the blocks' locations and the ring.

abbrev saw_as : Receive → List ℕ → Bool → Receive
saw_as v d ends = record v { seen = v.seen ++ reported_by d ∷ []; stage = cond ends Takes Looks }

during_after : (v : Receive) (d : List ℕ) (ends : Bool) → (ends ≡ false → length v.seen + 1 < v.layout.most)
    → IsDuring (saw_as v d ends) (cond ends Takes Looks)
during_after v d true more = omega (arith, length_push v.seen (reported_by d))
during_after v d false more = omega (arith, length_push v.seen (reported_by d), more refl)

fresh_after : (ends : Bool) → fresh_block (cond ends Takes Looks) ≡ []
fresh_after true = refl
fresh_after false = refl

vacated_after : (ends : Bool) → vacated (cond ends Takes Looks) ≡ 0
vacated_after true = refl
vacated_after false = refl

lt_of : (m n : ℕ) → nat_lt m n ≡ true → m < n
lt_of m n is = grind (arith, nat_tests)

pub part_more : (most before second : ℕ) → is_part most before second ≡ true → ends_packet second ≡ false
    → before + 1 < most
part_more most before second part on =
    let both : (bytes_in second == 2048 && nat_lt (before + 1) most) ≡ true = rw on at part in
    lt_of (before + 1) most (and_parts _ _ both).1

saw_keeps : (a : Numbers) (v : Receive) (d : List ℕ) → v.stage ≡ Looks
    → is_part v.layout.most (length v.seen) (second_half d) ≡ true → Keeps a v a (saw v d) []
saw_keeps a v d looks part =
    let ends = ends_packet (second_half d) in
    record {
      arena = (
        [],
        refl,
        λ k. omega (
          arith,
          times_out v k,
          times_out (saw v d) k,
          ap (λ (s : Stage). times_in_hand (fresh_block s) k) looks,
          ap (λ (ns : List ℕ). times_in_hand ns k) (fresh_after ends),
        ),
      );
      ring = same_ring v.layout;
      running = λ runs. record {
        part = runs.part;
        some = runs.some;
        full = omega (arith, runs.full, vacated_after ends, ap vacated looks);
        replaced = omega (arith, runs.replaced, vacated_after ends, ap vacated looks);
        stage = during_after v d ends (part_more v.layout.most (length v.seen) (second_half d) part);
      };
    }

pub look_keeps : (a : Numbers) (l : Look) (old new : List Call) (v w : Receive) → v.stage ≡ Looks
    → IsLook l old v new w → Keeps a v a w []
look_keeps a look.Nothing old new v w looks p = keeps_to a a v v w [] p.left (keeps_none a v)
look_keeps a look.Part old new v w looks p =
    keeps_to a a v (saw v p.bytes) w [] p.left (saw_keeps a v p.bytes looks p.part)
look_keeps a look.Wrong old new v w looks p = keeps_to a a v v w [] p.left (keeps_none a v)

-- Taking a part's block.

first_times : (blocks : List ℕ) (k : ℕ) → 0 < length blocks
    → times_in_hand blocks k ≡ times_in_hand (get_or blocks 0 0 ∷ []) k + times_in_hand (drop 1 blocks) k
first_times [] k some = absurd (omega (arith, some))
first_times (b ∷ blocks) k some = times-cons b blocks k

first_less : (blocks : List ℕ) → 0 < length blocks → length (drop 1 blocks) + 1 ≡ length blocks
first_less [] some = absurd (omega (arith, some))
first_less (b ∷ blocks) some = omega arith

more_times : (bs : List Block) (b : Block) (k : ℕ) → times_in_hand (numbers_of (bs ++ b ∷ [])) k
    ≡ times_in_hand (numbers_of bs) k + times_in_hand (b.number ∷ []) k
more_times bs b k =
    ap (λ (ns : List ℕ). times_in_hand ns k) (numbers-more bs b)
    ∙ times-append (numbers_of bs) (b.number ∷ []) k

took_keeps_at : (a : Numbers) (v : Receive) (seen : List Reported) (b : Block) → v.stage ≡ Takes → 0 < length seen
    → 0 < length v.layout.blocks → b.number ≡ block_at v.layout 0 → Keeps a v a (took v seen b) []
took_keeps_at a v [] b takes parts some is = absurd (omega (arith, parts))
took_keeps_at a v (t ∷ seen) b takes parts some is =
    let l = v.layout in
    let w = took v (t ∷ seen) b in
    record {
      arena = (
        [],
        refl,
        λ k. omega (
          arith,
          times_out v k,
          times_out w k,
          ap (λ (s : Stage). times_in_hand (fresh_block s) k) takes,
          first_times l.blocks k some,
          more_times v.held.bufs b k,
          ap (λ (n : ℕ). times_in_hand (n ∷ []) k) is,
        ),
      );
      ring = record { port = refl; tail = refl; ring = refl; size = refl; most = refl };
      running = λ runs. record {
        part = runs.part;
        some = runs.some;
        full = omega (arith, runs.full, first_less l.blocks some, ap vacated takes);
        replaced = omega (
          arith,
          runs.replaced,
          ap vacated takes,
          held_count v,
          held_count w,
          length_push v.held.bufs b,
        );
        stage = omega (arith, length_push v.held.bufs b);
      };
    }

pub took_keeps : (a : Numbers) (v : Receive) (b : Block) → TakesNext v b.number → 0 < length v.layout.blocks
    → Keeps a v a (took v v.seen b) []
took_keeps a v b own some = took_keeps_at a v v.seen b own.stage own.some some own.block

took_is : (v : Receive) (seen : List Reported) (b : Block) → 0 < length seen
    → ((took v seen b).stage ≡ Owes) × (length (took v seen b).seen + 1 ≡ length seen)
    × (0 < length (took v seen b).held.bufs)
took_is v [] b some = absurd (omega (arith, some))
took_is v (t ∷ seen) b some = (refl, omega arith, omega (arith, length_push v.held.bufs b))

pub took_owes : (v w : Receive) (b : Block) → 0 < length v.seen → w ≡ took v v.seen b
    → (w.stage ≡ Owes) × (length w.seen + 1 ≡ length v.seen) × (0 < length w.held.bufs)
took_owes v w b some is = rw is (took_is v v.seen b some)

took_same : (v : Receive) (seen : List Reported) (b : Block)
    → ((took v seen b).handed ≡ v.handed) × ((took v seen b).whole ≡ v.whole)
took_same v [] b = (refl, refl)
took_same v (t ∷ seen) b = (refl, refl)

pub took_handed : (v w : Receive) (b : Block) → w ≡ took v v.seen b → w.handed ≡ v.handed
took_handed v w b is = ap (λ (y : Receive). y.handed) is ∙ (took_same v v.seen b).0

pub took_whole : (v w : Receive) (b : Block) → w ≡ took v v.seen b → w.whole ≡ v.whole
took_whole v w b is = ap (λ (y : Receive). y.whole) is ∙ (took_same v v.seen b).1
