-- What a sending driver promises for one packet, and for the blocks that it frees.
use Rattle.std.specs.Prelude.{ℕ, ◌≡◌, ◌-◌, ◌+◌, ◌*◌, ◌==◌, ◌||◌, ◌&&◌, ◌≤◌, not, nat_lt, Bool, true, ⊤, List, [], ◌∷◌, ◌++◌, length, take, drop, replicate, Option, Some, None, Result, Ok, Err, if◌then◌else◌}
use Rattle.std.specs.List.{list_any}
use Rattle.pmd_access.specs.NicDevice.DmaArena.Numbers.{Numbers, is_own, is_free}
use Rattle.pmd_access.specs.Bufs.{bytes_of, numbers_of, with_all_free}
use Rattle.pmd_access.specs.Packet.{Kept}
use Rattle.pmd_access.specs.declared.fault.PmdFault.{PmdFault}
use Rattle.pmd_access.specs.declared.fault.PmdFault.TheVariants.{BadSize, ForeignBlock, DeviceFault, Call}
use Rattle.pmd_access.specs.declared.packet.Packet.{Packet}
use Rattle.pmd_tx.specs.declared.answer.Gate.{Gate}
use Rattle.pmd_tx.specs.declared.answer.Gate.TheVariants.{Refused, Full, Open}
use Rattle.pmd_tx.specs.declared.answer.TxAnswer.{TxAnswer}
use Rattle.pmd_tx.specs.declared.answer.TxAnswer.TheVariants.{Taken, RingFull}
use Rattle.pmd_tx.specs.declared.answer.TxFault.{TxFault}
use Rattle.pmd_tx.specs.Sending.{Sender, Outgoing, Segment, blocks_of, keeps, parts_for, segments_of}

-- A packet as it is accepted: zero-padded to 60 bytes if it is shorter.
abbrev pub padded : List ℕ → List ℕ
padded bytes = bytes ++ replicate (60 - length bytes) 0

abbrev pub accepted_of : Packet → Kept
accepted_of p = record { bytes = padded (take p.len (bytes_of p.bufs)); rss = p.rss; hash = p.hash }

-- How a packet is sent: its bytes are in the first of its blocks, one block for each part.
abbrev pub outgoing_of : Packet → Outgoing
outgoing_of p = record { blocks = take (parts_for p.len) (numbers_of p.bufs); kept = accepted_of p }

-- Whether the packet is empty, longer than the limit, or longer than the capacity of its blocks.
abbrev pub is_bad_size : Sender → Packet → Bool
is_bad_size v p = p.len == 0 || nat_lt v.layout.limit p.len || nat_lt (2048 * length p.bufs) p.len

-- Whether blocks can be returned to the arena: it owns their numbers, none is free there, and no number occurs twice.
abbrev pub are_out : Numbers → List ℕ → Bool
are_out a [] = true
are_out a (n ∷ numbers) =
    is_own a n && not (is_free a n) && not (list_any (λ b. n == b) numbers) && are_out a numbers

-- Whether a packet's blocks can be returned to the arena, and the ring keeps none of them.
abbrev pub goes_home : Sender → Numbers → Packet → Bool
goes_home v a p = are_out a (numbers_of p.bufs) && not (list_any (λ n. keeps v n) (numbers_of p.bufs))

-- Whether the ring has no room for a packet. Outstanding segments may take all slots except one.
abbrev pub is_full : Sender → Packet → Bool
is_full v p = not (nat_lt (length v.outstanding + parts_for p.len) v.layout.size)

-- The check of a packet before any event: the packet is refused, the ring is full, or the packet can be sent.
-- `elsewhere` says whether another ring of the driver has lent a block with one of the packet's block numbers.
abbrev pub gate_of : Sender → Numbers → Bool → Packet → Gate
gate_of v a elsewhere p =
    if is_bad_size v p then Refused BadSize
    else if goes_home v a p && not elsewhere
    then (if is_full v p then Full else Open)
    else Refused ForeignBlock

-- The fault is `DeviceFault` or `Call`, the faults that may occur after the check.
abbrev pub IsLate : PmdFault → Type 0
IsLate DeviceFault = ⊤
IsLate (Call f) = ⊤
IsLate other = ⊥

-- A packet that passed the check is accepted, or one of these faults occurs.
abbrev pub IsTried : Result TxAnswer TxFault → Type 0
IsTried (Ok Taken) = ⊤
IsTried (Ok (RingFull p)) = ⊥
IsTried (Err f) = IsLate f.fault

-- The result follows from the packet's check. If the packet is refused or the ring is full, the packet is returned.
abbrev pub IsAnswer : Gate → Packet → Result TxAnswer TxFault → Type 0
IsAnswer (Refused f) p r = r ≡ Err (record { fault = f; packet = Some p })
IsAnswer Full p r = r ≡ Ok (RingFull p)
IsAnswer Open p r = IsTried r

abbrev pub IsShut : Gate → Type 0
IsShut (Refused f) = ⊤
IsShut Full = ⊤
IsShut Open = ⊥

-- If the ring is reported as full, the outstanding segments and the packet's own would together leave no slot of the
-- ring free.
abbrev pub IsFullWhereReported : Sender → Packet → Result TxAnswer TxFault → Type 0
IsFullWhereReported v given (Ok (RingFull p)) = v.layout.size ≤ length v.outstanding + parts_for given.len
IsFullWhereReported v given (Ok Taken) = ⊤
IsFullWhereReported v given (Err f) = ⊤

-- The returned packet, if any. A packet that isn't returned was accepted.
abbrev pub returned : Result TxAnswer TxFault → Option Packet
returned (Ok Taken) = None
returned (Ok (RingFull p)) = Some p
returned (Err f) = f.packet

-- The packet was accepted and is the newest.
pub record IsAccepted (v : Sender) (p : Packet) (w : Sender) : Type 0 where
  pub accepted : w.accepted ≡ v.accepted ++ accepted_of p ∷ []
  pub outstanding : w.outstanding ≡ v.outstanding ++ segments_of (outgoing_of p)

-- No packet was accepted.
pub record IsNoneAccepted (v w : Sender) : Type 0 where
  pub accepted : w.accepted ≡ v.accepted
  pub outstanding : w.outstanding ≡ v.outstanding

-- The returned packet is the one passed in. After `DeviceFault`, only its block numbers are the same.
abbrev pub IsBack : PmdFault → Packet → Packet → Type 0
IsBack DeviceFault given back = numbers_of back.bufs ≡ numbers_of given.bufs
IsBack fault given back = back ≡ given

-- If the packet was accepted, the blocks that contain none of its bytes were returned to the arena; otherwise, the
-- arena is unchanged.
abbrev pub SendsHome : Option Packet → Packet → Numbers → Numbers → Type 0
SendsHome None p a b = b ≡ with_all_free a (drop (parts_for p.len) (numbers_of p.bufs))
SendsHome (Some back) p a b = b ≡ a

-- The number of these segments that end a packet.
abbrev pub ends_in : List Segment → ℕ
ends_in [] = 0
ends_in (s ∷ segments) = (if s.part.last then 1 else 0) + ends_in segments

-- The oldest `parts` outstanding segments, of which `packets` end a packet, were reaped. Their blocks are free in the
-- arena.
pub record Frees (v w : Sender) (a b : Numbers) (parts packets : ℕ) : Type 0 where
  pub few : parts ≤ length v.outstanding
  pub left : w.outstanding ≡ drop parts v.outstanding
  pub home : b ≡ with_all_free a (take parts (blocks_of v.outstanding))
  pub packets_are : packets ≡ ends_in (take parts v.outstanding)

-- Some of the oldest outstanding segments, of which `packets` end a packet, were reaped. Their blocks are free in the
-- arena.
abbrev pub FreesSome : Sender → Sender → Numbers → Numbers → ℕ → Type 0
FreesSome v w a b packets = (parts : ℕ) × Frees v w a b parts packets
