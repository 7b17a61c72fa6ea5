-- The replies to register accesses.
use Rattle.std.specs.Prelude.{ℕ, ◌≡◌}
use Rattle.nic_device.specs.declared.event.Event.TheVariants as event
use Rattle.datasheet_laws.specs.Prelude.{Done, Place, Port, Register, State, Word, named, reply_to}
use Rattle.datasheet_laws.specs.Shown.{word_in}

-- A read returns a word, and a write is done, whatever the register's kind and whatever is written.
pub record AnswersAccesses (s : State) (port : Port) (number : ℕ) : Type 0 where
  pub read :
      reply_to s (event.Read port number) ≡ Word (word_in (reply_to s (event.Read port number)))
  pub written : (word : ℕ) → reply_to s (event.Write port number word) ≡ Done

-- At each number of each register, through either port, a read returns a word and a write is done.
abbrev pub AccessesAreAnswered : Type 0
AccessesAreAnswered =
    (s : State) (port : Port) (number view : ℕ) (p : Place) → named s port number ≡ Register p view →
    AnswersAccesses s port number
