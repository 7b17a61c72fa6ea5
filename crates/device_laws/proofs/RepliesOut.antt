-- The transmitted frames after each event, and misaligned accesses.
use Rattle.std.proofs.Common.{cond, ◌≡◌, ◌%◌, ℕ, List, refl, ap, false, [], ◌∷◌, Option, Some, None}
use Rattle.nic_device.specs.DmaArena.Memory.{is_lent, read_at, write_at}
use Rattle.nic_device.specs.Footprint.{Reach, write_reach}
use Rattle.nic_device.specs.Link.{oldest_collected}
use Rattle.device_laws.specs.Prelude.{Fetched, Mode, Named, State, gives, mode_in, named, step_of}
use Rattle.device_laws.proofs.Prelude.{ne_eqb, transmitted_cases, write_cases}
use Rattle.device_laws.specs.Replies.{out_sent, out_collected, EventsMoveFramesOut, MisalignedChangesNothing}
use Rattle.nic_device.specs.Transmit.{transmitted, fetched_reply, with_frame}
use Rattle.device_laws.proofs.Standing.{stays_within}
use Rattle.device_laws.proofs.StandingAccesses.{read_rest}
use Rattle.device_laws.proofs.StandingQueues.{receiving_rest, switching_rest}
use Rattle.nic_device.specs.declared.event.Event.TheVariants as event
use Rattle.nic_device.specs.declared.event.Reply.TheVariants.{Done, Bytes, NotLent, Misaligned}

-- No write changes the transmitted frames.
write_out : (mode : Mode) (m : Named) (word : ℕ) → (write_reach mode m word).out ≡ false
write_out mode m word =
    write_cases (λ (r : Reach). r.out ≡ false) mode m word
    (record { nothing = refl; reset = refl; pool = λ v. refl; word = λ p. refl })

-- A transmit step.
fetched_out : (s new : State) (queue : ℕ) (f : Fetched) (o : Option (List ℕ)) → new.out ≡ with_frame s.out queue o
    → out_sent (fetched_reply queue f o) s new
fetched_out s new queue f (Some frame) is = record { frame = frame; long = refl; out = is }
fetched_out s new queue f None is = is

transmitted_out : (s : State) (queue : ℕ) → out_sent (transmitted s queue).reply s (transmitted s queue).state
transmitted_out s queue = transmitted_cases (λ o. out_sent o.reply s o.state) s queue (record {
  none = refl;
  idle = refl;
  fault = λ fault. refl;
  fetched = λ f is. fetched_out s _ queue f f.frame refl;
})

-- The oldest frame is collected.
oldest_out : (s : State) (out : List (ℕ × List ℕ)) → s.out ≡ out
    → out_collected (oldest_collected s out).reply s (oldest_collected s out).state
oldest_out s [] is = refl
oldest_out s (frame ∷ others) is = is

pub frames_out : EventsMoveFramesOut
unfolding step_of
frames_out s (event.Read port n) = (read_rest s port n).frames.out
frames_out s (event.Write port n word) =
    (stays_within s (event.Write port n word)).out (write_out (mode_in s.registers) (named s port n) word)
frames_out s event.RxStep = (receiving_rest s).out
frames_out s (event.TxStep queue) = transmitted_out s queue
frames_out s (event.QueueStep dir queue) = (switching_rest s dir queue).out
frames_out s event.Collect = oldest_out s s.out refl
frames_out s other = (stays_within s other).out refl

pub misaligned : MisalignedChangesNothing
unfolding step_of
misaligned s a n = record {
  peek = ap (λ b. cond b
      (cond (is_lent s.memory a 16) (gives (Bytes (read_at s.memory a 16)) s) (gives NotLent s))
      (gives Misaligned s)) (ne_eqb (a % 16) 0 n);
  poke = λ bytes. ap (λ b. cond b
      (cond (is_lent s.memory a 16) (gives Done (record s { memory = write_at s.memory a bytes })) (gives NotLent s))
      (gives Misaligned s)) (ne_eqb (a % 16) 0 n);
}
