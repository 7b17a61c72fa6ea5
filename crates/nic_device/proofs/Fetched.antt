-- The memory and the staged bytes after a slot is fetched.
use Rattle.std.proofs.Common.{◌≡◌, ◌<◌, ◌≤◌, ◌+◌, ◌-◌, ℕ, Bool, true, false, cond, List, [], ◌++◌, length, length-append, subst, inl, inr, arith, Option, Some, None, Ok}
use Rattle.std.specs.Prelude.{All, IfSome, replicate}
use Rattle.std.specs.Int.{w32}
use Rattle.std.proofs.lemmas.Bool.{cases_lt}
use Rattle.std.proofs.lemmas.List.{get_or_past, length-replicate}
use Rattle.std.proofs.lemmas.List.Elements.{All-append, All-push, All-replicate}
use Rattle.rx_ring.specs.DmaArena.Memory.{Memory}
use Rattle.rx_ring.proofs.DmaArena.Bus.{length-read_at}
use Rattle.rx_ring.specs.DmaRing.Descriptor.{first_half, second_half}
use Rattle.rx_ring.specs.DmaRing.Transmit.{with_done}
use Rattle.rx_ring.specs.DmaRing.declared.ring.Ring.{Ring}
use Rattle.tx_ring.specs.Fetch.{Outcome as Fetching, fetch_of, descriptor_of, command_in, buffer_bytes}
use Rattle.tx_ring.specs.Report.{new_head, report_bytes, report_address, reported}
use Rattle.tx_ring.specs.Frame.{frame_of}
use Rattle.tx_ring.specs.declared.fetched.Fetched.{Fetched}
use Rattle.tx_ring.specs.declared.tx.Tx.{Tx as Sending}
use Rattle.tx_ring.proofs.Fetches.{fetch_cases}
use Rattle.register_file.specs.Registers.{Registers}
use Rattle.register_file.specs.Settings.{frame_limit}
use Rattle.register_laws.specs.Sound.{AreSound}
use Rattle.register_laws.proofs.RowBits.{word_small}
use Rattle.register_file.specs.RegTable.declared.rows.RowId.TheVariants.{Maxfrs, Hlreg0}
use Rattle.register_file.specs.Bits.{has_bit}
use Rattle.register_file.specs.Columns.{place}
use Rattle.register_file.specs.Registers.{word_of}
use Rattle.nic_device.specs.Sound.{AreBlocks, AreStaged, IsOut, IsStaged}
use Rattle.nic_device.specs.State.{State}
use Rattle.nic_device.specs.Transmit.{staged_by, with_frame}
use Rattle.nic_device.proofs.Blocks.{AreBlocks-write_at, read_at-small, to_le_bytes-small, of_halves-small}
use Rattle.nic_device.proofs.Cases.{either_way}
use Rattle.nic_device.proofs.Keeping.{IsStaged-none}
use Rattle.nic_device.specs.Sound.{AreBytes}

-- Each block in memory is still whole after a write-back.
report-small : (r : Ring) (o : Option ℕ) (descriptor : List ℕ) → AreBytes (report_bytes r o descriptor)
report-small r (Some address) descriptor = to_le_bytes-small w32 (new_head r)
report-small r None descriptor = of_halves-small (first_half descriptor) (with_done (second_half descriptor))

AreBlocks-reported : (m : Memory) (r : Ring) (tx : Sending) (asked : Bool) (descriptor : List ℕ) → AreBlocks m
    → AreBlocks (reported m r tx asked descriptor)
AreBlocks-reported m r tx asked descriptor h =
    either_way AreBlocks asked _ m
    (AreBlocks-write_at m (report_address r tx) _ h (report-small r tx.writeback descriptor)) h

pub AreBlocks-fetched : (m : Memory) (staged : List ℕ) (r : Ring) (tx : Sending) → AreBlocks m
    → AreBlocks (fetch_of m staged r tx).memory
AreBlocks-fetched m staged r tx h =
    fetch_cases (λ (o : Fetching). AreBlocks o.memory) m staged r tx (λ fault. h) (λ context. h)
    (λ full sent. AreBlocks-reported m r tx (command_in (descriptor_of m r)).report (descriptor_of m r) h)

-- Staged bytes stay within the frame limit.
length-more : (m : Memory) (staged descriptor : List ℕ)
    → length (staged ++ buffer_bytes m descriptor) ≡ length staged + (command_in descriptor).len
length-more m staged descriptor = simp (length-append, length-read_at)

-- Staged bytes stay within the limit after the bytes of a descriptor's buffer are added.
IsStaged-more : (m : Memory) (staged descriptor : List ℕ) (limit : ℕ) → AreBlocks m → IsStaged staged
    → limit ≤ 65535 → length staged + (command_in descriptor).len ≤ limit
    → IsStaged (staged ++ buffer_bytes m descriptor)
IsStaged-more m staged descriptor limit h is low room =
    let more = length-more m staged descriptor in
    record {
      bytes = All-append (λ byte. byte < 256) staged (buffer_bytes m descriptor) is.bytes (read_at-small m h _ _);
      short = omega arith;
    }

pub IsStaged-fetched : (m : Memory) (staged : List ℕ) (r : Ring) (tx : Sending) → AreBlocks m → IsStaged staged
    → tx.limit ≤ 65535 → IsStaged (fetch_of m staged r tx).staged
IsStaged-fetched m staged r tx h short limit =
    fetch_cases (λ (o : Fetching). IsStaged o.staged) m staged r tx (λ fault. short) (λ context. short)
    (λ full sent.
    either_way IsStaged (command_in (descriptor_of m r)).end [] (staged ++ buffer_bytes m (descriptor_of m r))
    IsStaged-none (IsStaged-more m staged (descriptor_of m r) tx.limit h short limit sent.room))

-- A frame that is sent, padded or not.
IsStaged-frame_of : (pad : Bool) (bytes : List ℕ) → IsStaged bytes → IsStaged (frame_of pad bytes)
IsStaged-frame_of true bytes is =
    let short = is.short in
    record {
      bytes = All-append (λ byte. byte < 256) bytes (replicate (60 - length bytes) 0) is.bytes
          (All-replicate (λ byte. byte < 256) (60 - length bytes) 0 (omega arith));
      short = simp (length-append, length-replicate) (omega arith);
    }
IsStaged-frame_of false bytes is = is

abbrev SendsFrame : Fetching → Type 0
SendsFrame o = (f : Fetched) → o.answer ≡ Ok f → IfSome f.frame IsStaged

frame_sent : (b : Bool) (frame : List ℕ) → IsStaged frame → IfSome (cond b (Some frame) None) IsStaged
frame_sent true frame is = is
frame_sent false frame is = tt

sends_frame : (m : Memory) (staged : List ℕ) (r : Ring) (tx : Sending) → AreBlocks m → IsStaged staged
    → tx.limit ≤ 65535 → SendsFrame (fetch_of m staged r tx)
sends_frame m staged r tx h short limit =
    fetch_cases SendsFrame m staged r tx (λ fault f is. absurd (cc))
    (λ context f is. let none : f.frame ≡ None = cc in rw none tt)
    (λ full sent f is.
    let d = descriptor_of m r in
    let frame = frame_of tx.pad (staged ++ buffer_bytes m d) in
    let same : cond (command_in d).end (Some frame) None ≡ f.frame = cc in
    subst (λ o. IfSome o IsStaged) same (frame_sent (command_in d).end frame
    (IsStaged-frame_of tx.pad _ (IsStaged-more m staged d tx.limit h short limit sent.room))))

out_of : (queue : ℕ) → queue < 128 → (o : Option (List ℕ)) → IfSome o IsStaged
    → IfSome o (λ frame. IsOut (queue, frame))
out_of queue few None is = tt
out_of queue few (Some frame) is = record { queue = few; bytes = is.bytes; short = is.short }

pub IsOut-fetched : (m : Memory) (staged : List ℕ) (r : Ring) (tx : Sending) (queue : ℕ) → AreBlocks m
    → IsStaged staged → tx.limit ≤ 65535 → queue < 128 → (f : Fetched) → (fetch_of m staged r tx).answer ≡ Ok f
    → IfSome f.frame (λ frame. IsOut (queue, frame))
IsOut-fetched m staged r tx queue h short limit few f is =
    out_of queue few f.frame (sends_frame m staged r tx h short limit f is)

pub AreOut-with_frame : (out : List (ℕ × List ℕ)) (queue : ℕ) (o : Option (List ℕ)) → All IsOut out
    → IfSome o (λ frame. IsOut (queue, frame)) → All IsOut (with_frame out queue o)
AreOut-with_frame out queue None h is = h
AreOut-with_frame out queue (Some frame) h is = All-push IsOut out (queue, frame) h is

pub frame_limit-lt : (r : Registers) → AreSound r → frame_limit r ≤ 65535
frame_limit-lt r sound =
    let small = word_small r sound (place Maxfrs 0) in
    either_way (λ (n : ℕ). n ≤ 65535) (has_bit 2 (word_of r Hlreg0 0)) _ 1514 (omega arith) (omega arith)

pub IsStaged-by : (s : State) (queue : ℕ) → AreStaged s.staged → IsStaged (staged_by s queue)
IsStaged-by s queue h =
    elim (cases_lt queue (length s.staged)) as (λ _. IsStaged (staged_by s queue)) [
      | inl inside ↦ h.each queue [] inside
      | inr past ↦ rw (get_or_past s.staged queue [] past) IsStaged-none
    ]
