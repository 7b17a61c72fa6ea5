use Rattle.std.proofs.Common.{◌≡◌, ◌≤◌, ◌+◌, length, take, drop, vec_len}
use Rattle.std.specs.Prelude.{reverse, vec_capacity}
use Rattle.nic_device.specs.Run.{replies_of, state_after}
use Rattle.nic_device.proofs.device.Device.run.Given as goal

abbrev pub invariant-loop-event : goal.invariant-loop-event
invariant-loop-event l =
    record {
      rest : l.events.items ≡ reverse (drop (length l.replies.items) l.fn.events.items);
      few : length l.replies.items + length l.events.items ≡ length l.fn.events.items;
      replies : l.replies.items ≡ replies_of l.fn.self (take (length l.replies.items) l.fn.events.items);
      state : l.self ≡ state_after l.fn.self (take (length l.replies.items) l.fn.events.items);
      room : length l.fn.events.items ≤ vec_capacity l.replies;
    }

abbrev pub decreases-loop-event : goal.decreases-loop-event
decreases-loop-event l = vec_len l.events
