use Rattle.std.proofs.Common.{◌≡◌, ◌+◌, ◌-◌, ◌<◌, ◌∙◌, ◌++◌, ◌&&◌, if◌then◌else◌, Bool, List, Some, None, ℕ, length, arith, refl}
use Rattle.std.specs.Prelude.{Result, Ok, Err, OnErr}
use Rattle.std.proofs.lemmas.List.{length-append}
use Rattle.dma_arena.specs.Memory.{Memory, read_at}
use Rattle.dma_arena.proofs.Bus.{length-read_at}
use Rattle.tx_ring.specs.Fetch.{command_in, buffer_bytes, buffer_in}
use Rattle.tx_ring.specs.Frame.{frame_of}
use Rattle.tx_ring.proofs.Staging.{held_of, frame-held_of, length-bytes_held}
use Rattle.tx_ring.proofs.slot.send.Goals as goal

-- The packet's padding, from what the code computed.
zeros_of : (m : Memory) (staged : List ℕ) (a len : ℕ) (end pad : Bool)
    → (if end && pad then 60 - (length staged + len) else 0) ≡
    (if end && pad then 60 - length (staged ++ read_at m a len) else 0)
zeros_of m staged a len end pad = rw (length-append staged (read_at m a len), length-read_at m a len) refl

on_err : {T E : Type 0} (r : Result T E) (P : Type 0) → P → OnErr r P
on_err (Ok value) P holds = tt
on_err (Err error) P holds = holds

pub returns-in_err-stage-clause-full : goal.returns-in_err-stage-clause-full
returns-in_err-stage-clause-full c =
    let m : Memory = c.args.memory.now in
    let staged : List ℕ = c.args.staged.now in
    let descriptor : List ℕ = c.args.descriptor.now in
    let bytes : List ℕ = staged ++ buffer_bytes m descriptor in
    let end : Bool = (command_in descriptor).end in
    let pad : Bool = c.args.tx.now.pad in
    let len : c.from-len.result ≡ (command_in descriptor).len =
    rw (c.from-len.ensures, c.command_in-command.ensures, c.second_half.ensures) refl in
    let zeros : c.padding-zeros.result ≡ (if end && pad then 60 - length bytes else 0) =
    rw (len, c.bytes.ensures, c.command_in-command.ensures, c.second_half.ensures) at c.padding-zeros.ensures
    ∙ zeros_of m staged (buffer_in descriptor) (command_in descriptor).len end pad in
    let held = length-bytes_held end pad bytes in
    let size : length bytes ≡ length staged + (command_in descriptor).len =
    rw (
      length-append staged (buffer_bytes m descriptor),
      length-read_at m (buffer_in descriptor) (command_in descriptor).len,
    ) refl in
    let more : length staged < length bytes + (if end && pad then 60 - length bytes else 0) =
    omega (arith, c.in_err-stage.ensures.full, size, zeros, len) in
    rw held (on_err c.from_residual.result _ more)

pub returns-clause-answer : goal.returns-clause-answer
returns-clause-answer c =
    let m : Memory = c.args.memory.now in
    let staged : List ℕ = c.args.staged.now in
    let descriptor : List ℕ = c.args.descriptor.now in
    let bytes : List ℕ = staged ++ buffer_bytes m descriptor in
    let end : Bool = (command_in descriptor).end in
    let pad : Bool = c.args.tx.now.pad in
    let len : c.from-len.result ≡ (command_in descriptor).len =
    rw (c.from-len.ensures, c.command_in-command.ensures, c.second_half.ensures) refl in
    let zeros : c.padding-zeros.result ≡ (if end && pad then 60 - length bytes else 0) =
    rw (len, c.bytes.ensures, c.command_in-command.ensures, c.second_half.ensures) at c.padding-zeros.ensures
    ∙ zeros_of m staged (buffer_in descriptor) (command_in descriptor).len end pad in
    let held : c.stage.new.self ≡ held_of end pad bytes =
    rw (c.first_half.ensures, len, zeros) at c.in_ok-stage.ensures.staged in
    let frame : c.frame-frame.result ≡ (if end then Some (frame_of pad bytes) else None) =
    rw (held, c.command_in-command.ensures, c.second_half.ensures) at c.frame-frame.ensures.frame
    ∙ frame-held_of end pad bytes in
    rw (frame, c.report-back.ensures.address, c.next.ensures, c.command_in-command.ensures, c.second_half.ensures) refl
