-- The collected frame has the length that `nic_next_out` reports.
use Rattle.std.proofs.Common.{◌≡◌, ◌∙◌, sym, ap, ℕ, ◌≤◌, List, [], ◌∷◌, length, take, arith}
use Rattle.std.proofs.lemmas.List.{length-take-le}
use Rattle.nic_device.specs.DmaArena.Block.{Block}
use Rattle.nic_device.specs.Link.{next_out_of, oldest_collected}
use Rattle.nic_device.specs.State.{State}
use Rattle.nic_device.specs.Step.{step_of, reply_to}
use Rattle.nic_device.specs.declared.event.Event.TheVariants as event
use Rattle.nic_device.specs.declared.event.Reply.{Reply}
use Rattle.nic_device.specs.declared.event.Reply.TheVariants.{Idle, Frame}

oldest_fits : (s : State) (out : List (ℕ × List ℕ)) (queue : ℕ) (bytes : List ℕ)
    → (oldest_collected s out).reply ≡ Frame queue bytes → length bytes ≡ next_out_of out
oldest_fits s [] queue bytes e = (let no : Idle ≡ Frame queue bytes = e in cc)
oldest_fits s (frame ∷ others) queue bytes e =
    (let same : Frame frame.0 frame.1 ≡ Frame queue bytes = e in let is : frame.1 ≡ bytes = cc in ap length (sym is))

pub frame_fits : (s : State) (queue : ℕ) (bytes : List ℕ) → reply_to s event.Collect ≡ Frame queue bytes
    → length bytes ≡ next_out_of s.out
unfolding step_of
frame_fits s queue bytes e = oldest_fits s s.out queue bytes e

-- The frame fits if the caller's buffer is at least as long.
pub room_fits : (s : State) (r : Reply Block) (queue next : ℕ) (bytes all room : List ℕ) → r ≡ reply_to s event.Collect
    → r ≡ Frame queue bytes → all ≡ bytes → next ≡ next_out_of s.out → next ≤ length room
    → length (take (length all) room) ≡ length all
room_fits s r queue next bytes all room reply is same outcome small =
    let long : length all ≡ next = ap length same ∙ frame_fits s queue bytes (sym reply ∙ is) ∙ sym outcome in
    length-take-le (length all) room (omega (arith, long, small))
