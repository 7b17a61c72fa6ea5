-- The output of a run.
use Rattle.std.specs.Prelude.{◌≡◌, ◌<◌, ℕ, suc, ◌+◌, Bool, true, false, List, [], ◌∷◌, ◌++◌, Option, codes, decimal, length, count_by}
use Rattle.std.specs.Io.KnownBytes.{Appends}
use Rattle.nic_device.specs.DmaArena.Block.{Block}
use Rattle.nic_device.specs.State.{new_state}
use Rattle.nic_device.specs.declared.event.Port.TheVariants.{Pf}
use Rattle.nic_device.specs.declared.event.Reply.{Reply}
use Rattle.nic_device.specs.declared.event.Reply.TheVariants.{Sent}
use Rattle.pmd.specs.DeviceLock.Alone.{LeavesAlone}
use Rattle.pmd.specs.Beginning.{BeginsWell}
use Rattle.pmd.specs.DeviceLock.declared.alone.Watched.{Watched}
use Rattle.pmd.specs.DeviceLock.declared.entry.Entry.{Entry}
use Rattle.pmd.specs.DeviceLock.History.{IsLegal}
use Rattle.pmd.specs.declared.beginning.Given.{Given}
use Rattle.pmd.specs.declared.reports.Report.{Report}

-- The number of bytes in the packets that these reports describe.
abbrev pub byte_count : List Report → ℕ
byte_count [] = 0
byte_count (report ∷ reports) = report.len + byte_count reports

abbrev pub is_sent : Reply Block → Bool
is_sent (Sent queue len back) = true
is_sent other = false

-- The number of frames sent in a history.
abbrev pub sent_in : List Entry → ℕ
sent_in history = count_by (λ (e : Entry). is_sent e.reply) history

-- A queue's line of the summary, made from the reports of the queue's worker.
abbrev pub queue_line : ℕ → List Report → List ℕ
queue_line queue reports = codes "queue " ++ (decimal queue ++ (codes " packets " ++ (decimal (length reports)
    ++ (codes " bytes " ++ (decimal (byte_count reports) ++ codes "\n")))))

-- The summary's lines for queues with consecutive numbers, starting at `queue`.
abbrev pub queue_lines : ℕ → List (List Report) → List ℕ
queue_lines queue [] = []
queue_lines queue (reports ∷ rest) = queue_line queue reports ++ queue_lines (suc queue) rest

-- The lines of all queues, and the number of frames sent.
abbrev pub summary_text : List (List Report) → ℕ → List ℕ
summary_text reports sent = queue_lines 0 reports
    ++ (codes "sent " ++ (decimal sent ++ codes "\nhistory legal\n"))

-- A worker drives the queue with its number, through the pass with that number as its tag.
abbrev pub watched_of : ℕ → Watched
watched_of worker = record { vfs = 0; pass = worker; queue = worker }

-- The worker's driver starts on the worker's queue, at the physical function's port.
abbrev pub given_of : ℕ → Given
given_of worker = record { port = Pf; queue = worker; frame = 1518 }

-- A history leaves a worker's queue alone, and the worker's driver begins well in it: the start is the first calls of
-- the worker's pass.
pub record HasItsQueue (worker : ℕ) (history : List Entry) : Type 0 where
  pub alone : LeavesAlone (watched_of worker) history
  pub begins : BeginsWell (watched_of worker) 0 (given_of worker) history

-- Every worker below `workers` has its queue in the history, in the sense of `HasItsQueue`.
abbrev pub HaveTheirQueues : ℕ → List Entry → Type 0
HaveTheirQueues workers history = (worker : ℕ) → worker < workers → HasItsQueue worker history

-- This many frames were sent in a legal history of the controller in which the workers have their queues.
abbrev pub IsReported : ℕ → ℕ → Type 0
IsReported workers sent =
    (history : List Entry) × IsLegal (new_state 0 64) history × HaveTheirQueues workers history
    × (sent ≡ sent_in history)

-- The summary of this many queues was written, for a legal history in which the workers have their queues.
abbrev pub Tells : ℕ → Option (List ℕ) → Option (List ℕ) → Type 0
Tells queues old new = (reports : List (List Report)) × (sent : ℕ) × (length reports ≡ queues) × IsReported queues sent
    × Appends old new (summary_text reports sent)
