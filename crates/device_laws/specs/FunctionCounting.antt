-- Which counters of virtual functions an event increments, given its reply.
use Rattle.std.specs.Prelude.{ℕ, ◌≡◌, ◌+◌, ◌%◌, ◌^◌, ◌==◌, Bool, false, ◌&&◌, ◌||◌, ⊤, IsFalse, Option, Some, None, if◌then◌else◌}
use Rattle.nic_device.specs.declared.event.Event.TheVariants as event
use Rattle.device_laws.specs.Prelude.{Block, Event, IsSound, Place, Register, Reply, RowId, Sent, State, VfCounters}
use Rattle.device_laws.specs.Prelude.{Vfgprc, Vfgptc, Wrote, after, asks_pool_reset, asks_reset, function_of_queue}
use Rattle.device_laws.specs.Prelude.{is_place, named, place, reply_to, row_of, word_at}

-- Whether a place is a virtual function's counter in a row; false if there is no function.
abbrev pub is_counter_of : Option ℕ → RowId → Place → Bool
is_counter_of None row p = false
is_counter_of (Some v) row p = is_place (place row v) p

-- A receive step: VFGPRC counts a completely written frame, for the function of the queue's pool.
abbrev pub function_received : State → Reply Block → Place → Bool
function_received s (Wrote queue slot end desc at len) p =
    end && is_counter_of (function_of_queue s.registers s.vfs queue) Vfgprc p
function_received s other p = false

-- A transmit step: VFGPTC counts a transmitted frame, for the function of the queue's pool.
abbrev pub function_sent : State → Reply Block → Place → Bool
function_sent s (Sent queue len back) p = is_counter_of (function_of_queue s.registers s.vfs queue) Vfgptc p
function_sent s other p = false

-- Whether an event increments a virtual function's counter at a place.
abbrev pub counts_for_function : State → Event Block → Reply Block → Place → Bool
counts_for_function s event.RxStep reply p = function_received s reply p
counts_for_function s (event.TxStep queue) reply p = function_sent s reply p
counts_for_function s other reply p = false

-- A counter's next value: one more if the event increments it, wrapping from the largest word to 0.
abbrev pub with_one_round : Bool → ℕ → ℕ
with_one_round counted word = if counted then (word + 1) % 2 ^ 32 else word

-- Whether a write to place `q` resets the counter at place `p`, because it resets the device or the function's pool.
abbrev pub resets_count : Place → ℕ → Place → Bool
resets_count q word p =
    asks_reset (row_of q.row).kind word || (asks_pool_reset (row_of q.row).kind word && p.index == q.index)

-- The event doesn't reset the counter.
abbrev pub KeepsFunctionCount : State → Place → Event Block → Type 0
KeepsFunctionCount s p (event.Write port number word) =
    (q : Place) (view : ℕ) → named s port number ≡ Register q view → IsFalse (resets_count q word p)
KeepsFunctionCount s p other = ⊤

-- An event adds one to each virtual function's counter that counts it. Every other such counter that the event doesn't
-- reset is unchanged. A read changes no such counter.
abbrev pub EventsCountForFunctions : Type 0
EventsCountForFunctions =
    (s : State) → IsSound s → (e : Event Block) (p : Place) → (row_of p.row).bank ≡ VfCounters →
    KeepsFunctionCount s p e →
    word_at (after s e).registers.words p
    ≡ with_one_round (counts_for_function s e (reply_to s e) p) (word_at s.registers.words p)
