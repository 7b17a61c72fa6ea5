-- Which queue and which RSS type a frame has, by the bits of MRQC, RETA, GCR_EXT and RXCSUM, and which writes request a
-- reset.
use Rattle.std.specs.Prelude.{ℕ, ◌≡◌, ◌≢◌, ◌+◌, ◌*◌, ◌/◌, ◌%◌, ◌^◌, ◌⊎◌, true, false, ◌&&◌, ◌||◌, List, [], take, Ok}
use Rattle.rss_hash.specs.Choice.{code_of, rss_type_of, hashed_part}
use Rattle.rss_hash.specs.declared.choice.RssType.{RssType}
use Rattle.rx_filter.specs.Laws.{GoesToPool}
use Rattle.datasheet_laws.specs.NumberPrelude.{Ctrl, Flow, HasShape, Pvfctrl, Registers, RowId, Target, asks_pool_reset}
use Rattle.datasheet_laws.specs.NumberPrelude.{asks_reset, has_bit, row_of, rss_entry, rss_hash, rss_type, sorted}
use Rattle.datasheet_laws.specs.ByAddress.{word, holds}

-- The codes in MRQC bits 3 to 0 that enable hashing: 1, 0xA and 0xB.
abbrev pub IsHashing : ℕ → Type 0
IsHashing mrqc = (mrqc % 16 ≡ 1) ⊎ ((mrqc % 16 ≡ 0xA) ⊎ (mrqc % 16 ≡ 0xB))

-- A type with this number, which hashes this part of the flow's input.
pub record IsType (t : RssType) (code : ℕ) (input part : List ℕ) : Type 0 where
  pub number : code_of t ≡ code
  pub hashes : hashed_part t input ≡ part

-- The type that MRQC selects for a flow has this number, and hashes this part of its input.
abbrev pub Has : (mrqc : ℕ) → Flow → (code : ℕ) (part : List ℕ) → Type 0
Has mrqc flow code part = IsType (rss_type_of mrqc flow) code flow.input part

-- Bit 16 is for TCP over IPv4, 17 for IPv4 by its addresses, 20 for IPv6 by its addresses, 21 for TCP over IPv6, 22 for
-- UDP over IPv4, and 23 for UDP over IPv6. A flow that isn't hashed has type 0, and so does every flow with another
-- code.
pub record HasTypes (mrqc : ℕ) (flow : Flow) : Type 0 where
  pub tcp_4 : IsHashing mrqc → flow.version ≡ 4 → (flow.tcp && has_bit 16 mrqc) ≡ true → Has mrqc flow 1 flow.input
  pub udp_4 : IsHashing mrqc → flow.version ≡ 4 → (flow.tcp && has_bit 16 mrqc) ≡ false →
      (flow.udp && has_bit 22 mrqc) ≡ true → Has mrqc flow 7 flow.input
  pub any_4 : IsHashing mrqc → flow.version ≡ 4 → (flow.tcp && has_bit 16 mrqc) ≡ false →
      (flow.udp && has_bit 22 mrqc) ≡ false → has_bit 17 mrqc ≡ true → Has mrqc flow 2 (take 8 flow.input)
  pub no_4 : IsHashing mrqc → flow.version ≡ 4 → (flow.tcp && has_bit 16 mrqc) ≡ false →
      (flow.udp && has_bit 22 mrqc) ≡ false → has_bit 17 mrqc ≡ false → Has mrqc flow 0 []
  pub tcp_6 : IsHashing mrqc → flow.version ≡ 6 → (flow.tcp && has_bit 21 mrqc) ≡ true → Has mrqc flow 3 flow.input
  pub udp_6 : IsHashing mrqc → flow.version ≡ 6 → (flow.tcp && has_bit 21 mrqc) ≡ false →
      (flow.udp && has_bit 23 mrqc) ≡ true → Has mrqc flow 8 flow.input
  pub any_6 : IsHashing mrqc → flow.version ≡ 6 → (flow.tcp && has_bit 21 mrqc) ≡ false →
      (flow.udp && has_bit 23 mrqc) ≡ false → has_bit 20 mrqc ≡ true → Has mrqc flow 5 (take 32 flow.input)
  pub no_6 : IsHashing mrqc → flow.version ≡ 6 → (flow.tcp && has_bit 21 mrqc) ≡ false →
      (flow.udp && has_bit 23 mrqc) ≡ false → has_bit 20 mrqc ≡ false → Has mrqc flow 0 []
  pub other : IsHashing mrqc → flow.version ≢ 4 → flow.version ≢ 6 → Has mrqc flow 0 []
  pub off : ¬ IsHashing mrqc → Has mrqc flow 0 []

abbrev pub TypesAreChosen : Type 0
TypesAreChosen = (mrqc : ℕ) (flow : Flow) → HasTypes mrqc flow

-- A frame goes to queue t.queue. With code 1, this is the entry of RETA. With a code for pools, it is one of the pool's
-- queues: if GCR_EXT bits 1 to 0 aren't 1, the first of two with code 8, one of four with 0xA, and one of two with 0xB;
-- otherwise, the first of eight with code 8, and one of eight with 0xA and 0xB. The entry is selected by the low seven
-- bits n of the hash, in bits 8(n mod 4)+3 to 8(n mod 4) of RETA[n / 4]. The hash is reported if RXCSUM bit 13 is 1.
pub record ChoosesQueues (r : Registers) (t : Target) (frame : List ℕ) : Type 0 where
  pub hashing : word r 0x05818 % 16 ≡ 1 → t.queue ≡ rss_entry r frame
  pub first_of_two : (pool : ℕ) → GoesToPool r frame pool t → word r 0x11050 % 4 ≢ 1 → word r 0x05818 % 16 ≡ 8 →
      t.queue ≡ 2 * pool
  pub of_four : (pool : ℕ) → GoesToPool r frame pool t → word r 0x11050 % 4 ≢ 1 → word r 0x05818 % 16 ≡ 0xA →
      t.queue ≡ 4 * pool + rss_entry r frame % 4
  pub of_two : (pool : ℕ) → GoesToPool r frame pool t → word r 0x11050 % 4 ≢ 1 → word r 0x05818 % 16 ≡ 0xB →
      t.queue ≡ 2 * pool + rss_entry r frame % 2
  pub first_of_eight : (pool : ℕ) → GoesToPool r frame pool t → word r 0x11050 % 4 ≡ 1 → word r 0x05818 % 16 ≡ 8 →
      t.queue ≡ 8 * pool
  pub of_eight : (pool : ℕ) → GoesToPool r frame pool t → word r 0x11050 % 4 ≡ 1 →
      (word r 0x05818 % 16 ≡ 0xA) ⊎ (word r 0x05818 % 16 ≡ 0xB) → t.queue ≡ 8 * pool + rss_entry r frame % 8
  pub entry : code_of (rss_type r frame) ≢ 0 →
      rss_entry r frame
      ≡ word r (0x05C00 + 4 * (rss_hash r frame % 128 / 4)) / 2 ^ (8 * (rss_hash r frame % 4)) % 16
  pub reported : holds r 0x05000 13 ≡ true → t.hash ≡ rss_hash r frame
  pub unreported : holds r 0x05000 13 ≡ false → t.hash ≡ 0

abbrev pub QueuesAreChosen : Type 0
QueuesAreChosen =
    (r : Registers) → HasShape r → (frame : List ℕ) (t : Target) → sorted r frame ≡ Ok t → ChoosesQueues r t frame

-- A write to CTRL, at 0x00000 and 0x00004, with bit 3 or bit 26 set requests a reset of the device. A write to PVFCTRL
-- with bit 26 set requests a reset of a pool. No other write requests a reset.
pub record Asks (w : ℕ) : Type 0 where
  pub control : asks_reset (row_of Ctrl).kind w ≡ (has_bit 3 w || has_bit 26 w)
  pub pool : asks_pool_reset (row_of Pvfctrl).kind w ≡ has_bit 26 w
  pub only : (row : RowId) → row ≢ Ctrl → asks_reset (row_of row).kind w ≡ false
  pub only_pool : (row : RowId) → row ≢ Pvfctrl → asks_pool_reset (row_of row).kind w ≡ false

abbrev pub ResetsAreAsked : Type 0
ResetsAreAsked = (w : ℕ) → Asks w
