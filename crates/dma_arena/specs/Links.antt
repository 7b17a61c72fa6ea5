use Rattle.std.specs.Prelude.{◌≡◌, ◌≢◌, ℕ, ◌<◌, ◌≤◌, ◌==◌, Option, Some, None, List, length, take, drop, slice_index_or, if◌then◌else◌}
use Rattle.std.specs.Int.{w32, from_le_bytes}
use Rattle.dma_arena.specs.declared.links.Links.{Links}

-- The links in a free block's first eight bytes.
unfoldable pub links_of : List ℕ → Links
links_of bytes = record { next = from_le_bytes w32 (take 4 bytes); prev = from_le_bytes w32 (take 4 (drop 4 bytes)) }

-- The index that marks both ends of the list; no block has this index.
abbrev pub list_end : ℕ
list_end = 65536

-- The links at each index that is in the list: the index of the list's end, and the index of each free block.
abbrev pub Nodes : Type 0
Nodes = ℕ → Option Links

-- Following a link forward and then back, or back and then forward, returns to the index where it began.
pub record IsRing (nodes : Nodes) (rank : ℕ → ℕ) : Type 0 where
  pub next : (p : ℕ) (l : Links) → nodes p ≡ Some l → (m : Links) × (nodes l.next ≡ Some m) × (m.prev ≡ p)
  pub prev : (p : ℕ) (l : Links) → nodes p ≡ Some l → (m : Links) × (nodes l.prev ≡ Some m) × (m.next ≡ p)
  -- The rank falls with each step forward, so the list reaches its end.
  pub falls : (p : ℕ) (l : Links) → nodes p ≡ Some l → p ≢ list_end → rank l.next < rank p

-- The nodes of a list: the list's end and the free blocks.
unfoldable pub nodes_of : Links → List (Option Links) → Nodes
nodes_of ends slots p = if p == list_end then Some ends else slice_index_or slots p None

-- The free blocks form one linked list, which contains all of them.
pub record IsLinked (ends : Links) (slots : List (Option Links)) : Type 0 where
  pub small : length slots ≤ list_end
  pub rank : ℕ → ℕ
  pub ring : IsRing (nodes_of ends slots) rank

-- The links at the index `place` are set; the links at all other indices are unchanged.
pub record Relinked (old new : Nodes) (place : ℕ) (links : Links) : Type 0 where
  pub there : new place ≡ Some links
  pub others : (r : ℕ) → r ≢ place → new r ≡ old r

-- The links `y` are the links `x`, except that they skip the index `p`, which has the links `l`.
pub record LeadsPast (p : ℕ) (l x y : Links) : Type 0 where
  pub next_past : x.next ≡ p → y.next ≡ l.next
  pub next_kept : x.next ≢ p → y.next ≡ x.next
  pub prev_past : x.prev ≡ p → y.prev ≡ l.prev
  pub prev_kept : x.prev ≢ p → y.prev ≡ x.prev

-- The block at the index `p`, which has the links `l`, was removed from the list.
pub record Leaves (old new : Nodes) (p : ℕ) (l : Links) : Type 0 where
  pub came : (r : ℕ) (y : Links) → new r ≡ Some y → (x : Links) × (old r ≡ Some x) × (r ≢ p) × LeadsPast p l x y
  pub went : (r : ℕ) (x : Links) → old r ≡ Some x → r ≢ p → (y : Links) × (new r ≡ Some y) × LeadsPast p l x y

-- The links `y` at the index `r` are the links `x`, with two exceptions: the end's `next` link and the first block's
-- `prev` link are now `p`.
pub record LeadsTo (p first r : ℕ) (x y : Links) : Type 0 where
  pub next_to : r ≡ list_end → y.next ≡ p
  pub next_kept : r ≢ list_end → y.next ≡ x.next
  pub prev_to : r ≡ first → y.prev ≡ p
  pub prev_kept : r ≢ first → y.prev ≡ x.prev

-- The block at the index `p` was inserted before the list's first block.
pub record Comes (old new : Nodes) (p first : ℕ) : Type 0 where
  pub there : new p ≡ Some (record { next = first; prev = list_end })
  pub came : (r : ℕ) (y : Links) → new r ≡ Some y → r ≢ p → (x : Links) × (old r ≡ Some x) × LeadsTo p first r x y
  pub went : (r : ℕ) (x : Links) → old r ≡ Some x → r ≢ p → (y : Links) × (new r ≡ Some y) × LeadsTo p first r x y
