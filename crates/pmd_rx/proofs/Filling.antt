-- Lemmas about filling a ring block by block.
use Rattle.std.proofs.Common.{◌≡◌, ℕ, ◌+◌, ◌<◌, false, List, [], ◌∷◌, ◌++◌, length, refl, sym, ap, ◌∙◌, append_assoc, arith}
use Rattle.std.proofs.lemmas.List.{append-nil, length_push}
use Rattle.pmd_access.specs.NicDevice.DmaArena.Numbers.{Numbers, free_count, with_free}
use Rattle.pmd_access.proofs.NicDevice.DmaArena.Arenas.{free_count_taken}
use Rattle.pmd_access.specs.DeviceLock.declared.entry.Call.{Call}
use Rattle.pmd_access.specs.Home.{IsDrawn}
use Rattle.pmd_access.proofs.Drawing.{drawn_next}
use Rattle.pmd_access.specs.declared.fault.PmdFault.{PmdFault}
use Rattle.pmd_access.specs.declared.fault.PmdFault.TheVariants as fault
use Rattle.pmd_rx.specs.Filling.{PostsSome, StopsFilling}
use Rattle.pmd_rx.specs.Keeping.{IsRunning, Posts}
use Rattle.pmd_rx.specs.Receive.{Receive, extended, no_packet}
use Rattle.pmd_rx.specs.declared.ring.Stage.TheVariants.{Looks}

-- Taking blocks decreases the number of free blocks by the number taken.

pub drawn_count : (a : Numbers) (ns : List ℕ) (b : Numbers) → IsDrawn a ns b → free_count a ≡ free_count b + length ns
drawn_count a [] b is = omega (arith, ap free_count is)
drawn_count a (n ∷ ns) b (free, is) =
    omega (arith, free_count_taken a n free, drawn_count (with_free a n false) ns b is)

-- Some blocks are posted.

pub posts_none : (a : Numbers) (v : Receive) → PostsSome 0 a v a v
posts_none a v = record {
  blocks = [];
  drawn = refl;
  many = refl;
  left = ap (λ (xs : List ℕ). let w : Receive = record v { layout = record v.layout { blocks = xs } } in w)
      (sym (append-nil v.layout.blocks));
}

pub posts_more : (count : ℕ) (a b d : Numbers) (v w x : Receive) → PostsSome count a v b w → Posts b w d x
    → PostsSome (count + 1) a v d x
posts_more count a b d v w x posts (block, free, taken, is) = record {
  blocks = posts.blocks ++ block ∷ [];
  drawn = drawn_next a posts.blocks b block d posts.drawn free taken;
  many = omega (arith, posts.many, length_push posts.blocks block);
  left = is
      ∙ ap (λ (y : Receive). let z : Receive = record y { layout = extended y.layout (block ∷ []) } in z) posts.left
      ∙ ap (λ (xs : List ℕ). let z : Receive = record v { layout = record v.layout { blocks = xs } } in z)
      (append_assoc v.layout.blocks posts.blocks (block ∷ []));
}

-- Posting leaves the stage at `Looks`.

pub posts_stage : (count : ℕ) (a b : Numbers) (v w : Receive) → PostsSome count a v b w → v.stage ≡ Looks
    → w.stage ≡ Looks
posts_stage count a b v w posts looks = ap (λ (y : Receive). y.stage) posts.left ∙ looks

pub posts_none_seen : (count : ℕ) (a b : Numbers) (v w : Receive) → PostsSome count a v b w
    → (v.seen ≡ []) × (v.held ≡ no_packet) → (w.seen ≡ []) × (w.held ≡ no_packet)
posts_none_seen count a b v w posts none =
    (ap (λ (y : Receive). y.seen) posts.left ∙ none.0, ap (λ (y : Receive). y.held) posts.left ∙ none.1)

pub posts_idle : (count : ℕ) (a b : Numbers) (v w : Receive) → PostsSome count a v b w
    → (v.whole ≡ []) × (v.named ≡ []) → (w.whole ≡ []) × (w.named ≡ [])
posts_idle count a b v w posts idle =
    (ap (λ (y : Receive). y.whole) posts.left ∙ idle.0, ap (λ (y : Receive). y.named) posts.left ∙ idle.1)

pub posts_handed : (count : ℕ) (a b : Numbers) (v w : Receive) → PostsSome count a v b w → w.handed ≡ v.handed
posts_handed count a b v w posts = ap (λ (y : Receive). y.handed) posts.left

posts_length : (count : ℕ) (a b : Numbers) (v w : Receive) → PostsSome count a v b w → v.layout.blocks ≡ []
    → length w.layout.blocks ≡ count
posts_length count a b v w posts empty =
    ap (λ (y : Receive). length y.layout.blocks) posts.left
    ∙ ap (λ (xs : List ℕ). length (xs ++ posts.blocks)) empty ∙ posts.many

posts_size : (count : ℕ) (a b : Numbers) (v w : Receive) → PostsSome count a v b w → w.layout.size ≡ v.layout.size
posts_size count a b v w posts = ap (λ (y : Receive). y.layout.size) posts.left

pub posts_room : (count : ℕ) (a b : Numbers) (v w : Receive) → PostsSome count a v b w → v.layout.blocks ≡ []
    → count + 1 < v.layout.size → length w.layout.blocks + 1 < w.layout.size
posts_room count a b v w posts empty few =
    omega (arith, few, posts_length count a b v w posts empty, posts_size count a b v w posts)

pub filled_runs : (count : ℕ) (a b : Numbers) (v w : Receive) → PostsSome count a v b w → v.layout.blocks ≡ []
    → v.stage ≡ Looks → (v.seen ≡ []) × (v.held ≡ no_packet) → (v.whole ≡ []) × (v.named ≡ []) → 0 < v.layout.most
    → v.layout.most < v.layout.size → count + 1 ≡ v.layout.size → IsRunning w
filled_runs count a b v w posts empty looks none idle part some all =
    let size = posts_size count a b v w posts in
    let most = ap (λ (y : Receive). y.layout.most) posts.left in
    let seen : length w.seen ≡ 0 = ap (λ (y : Receive). length y.seen) posts.left ∙ ap length none.0 in
    let same = posts_idle count a b v w posts idle in
    let holds = (posts_none_seen count a b v w posts none).1 in
    let named : length w.named ≡ 0 = ap (λ (ns : List ℕ). length ns) same.1 in
    let here : w.stage ≡ Looks = posts_stage count a b v w posts looks in
    record {
      part = omega (arith, most, part);
      some = omega (arith, some, size, most);
      full = rw here (omega (arith, all, size, posts_length count a b v w posts empty, named));
      replaced = rw (here, same.0, same.1, holds) refl;
      stage = rw here (omega (arith, seen, most, part));
    }

-- Filling a ring fails with `NoBuffer` only if fewer blocks were free than it must post.
pub short_of : (f : PmdFault) (old new : List Call) (a b : Numbers) (v w : Receive) → f ≡ fault.NoBuffer
    → StopsFilling f old a v new b w → free_count a + 1 < v.layout.size
short_of f old new a b v w is stops =
    let none = stops.none is in
    omega (
      arith,
      stops.few,
      none,
      stops.posts.many,
      drawn_count a stops.posts.blocks stops.arena stops.posts.drawn,
    )
