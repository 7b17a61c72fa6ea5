-- How a history is tested while its entries are read once.
use Rattle.std.specs.Prelude.{ℕ, zero, suc, ◌+◌, ◌-◌, ◌/◌, ◌%◌, ◌==◌, Bool, true, false, not, ◌&&◌, ◌||◌, List, [], ◌∷◌, get_or, Option, Some, None, if◌then◌else◌}
use Rattle.nic_device.specs.RegTable.Rows.{row_of}
use Rattle.nic_device.specs.RegTable.declared.place.Place.{Place}
use Rattle.nic_device.specs.VfMap.Owner.{has_queue, is_receive, is_transmit}
use Rattle.nic_device.specs.VfMap.declared.mode.Mode.{Mode}
use Rattle.nic_device.specs.RegisterFile.Access.{asks_pool_reset}
use Rattle.nic_device.specs.DmaArena.Block.{Block}
use Rattle.nic_device.specs.declared.event.Event.{Event}
use Rattle.nic_device.specs.declared.event.Event.TheVariants as event
use Rattle.nic_device.specs.declared.event.Reply.{Reply}
use Rattle.nic_device.specs.declared.event.Reply.TheVariants.{Wrote, Advanced, Sent}
use Rattle.device_lock.specs.declared.entry.Entry.{Entry}
use Rattle.device_lock.specs.declared.alone.Watched.{Watched}
use Rattle.device_lock.specs.Alone.{Blocks, place_at, mode_after, is_setting}

-- The blocks that a table marks.
abbrev pub marked : List Bool → Blocks
marked table number = get_or table number false

abbrev pub spares : ℕ → Mode → Place → ℕ → Bool
spares queue mode p word =
    not (is_setting p.row) && (not (is_receive p.row && (p.index == queue))
    && (not (is_transmit p.row && (p.index == queue))
    && not (asks_pool_reset (row_of p.row).kind word && has_queue mode p.index queue)))

abbrev pub spares_if_some : ℕ → Mode → Option Place → ℕ → Bool
spares_if_some queue mode None word = true
spares_if_some queue mode (Some p) word = spares queue mode p word

abbrev pub leaves_registers : Watched → Mode → Event Block → Bool
leaves_registers w mode (event.Write port number word) =
    spares_if_some w.queue mode (place_at mode w.vfs port number) word
leaves_registers w mode other = true

abbrev pub leaves_blocks : Blocks → Event Block → Bool
leaves_blocks mine (event.Lend block) = not (mine block.number)
leaves_blocks mine (event.Take number) = not (mine number)
leaves_blocks mine (event.Poke16 address bytes) = not (mine (address / 2048))
leaves_blocks mine other = true

-- Whether none of the `count` blocks starting at `number` is in the set.
unfoldable pub none_of : Blocks → ℕ → ℕ → Bool
none_of mine number zero = true
none_of mine number (suc count) = not (mine number) && none_of mine (number + 1) count

-- How many blocks a range touches.
abbrev pub touched : ℕ → ℕ → ℕ
touched at len =
    if len == 0 then 0 else (at % 2048 + (len - 1) % 2048) / 2048 + (len - 1) / 2048 + 1

abbrev pub is_clear : Blocks → ℕ → ℕ → Bool
is_clear mine at len = none_of mine (at / 2048) (touched at len)

abbrev pub writes_outside : ℕ → Blocks → Reply Block → Bool
writes_outside queue mine (Wrote on slot end desc at len) =
    (on == queue) || (is_clear mine at len && is_clear mine desc 16)
writes_outside queue mine (Advanced on slot (Some back)) = (on == queue) || not (mine (back / 2048))
writes_outside queue mine (Sent on len (Some back)) = (on == queue) || not (mine (back / 2048))
writes_outside queue mine other = true

abbrev pub leaves_alone : Watched → Blocks → Mode → Entry → Bool
leaves_alone w mine mode e =
    ((e.pass == w.pass) || (leaves_registers w mode e.event && leaves_blocks mine e.event))
    && writes_outside w.queue mine e.reply

-- Whether the remaining entries leave the queue alone, given the mode after the earlier entries and whether these
-- include an entry of the pass.
abbrev pub rest_leaves_alone : Watched → Blocks → Mode → Bool → List Entry → Bool
rest_leaves_alone w mine mode begun [] = true
rest_leaves_alone w mine mode begun (e ∷ es) =
    (not begun || leaves_alone w mine mode e)
    && rest_leaves_alone w mine (mode_after w.vfs mode e.event) (begun || (e.pass == w.pass)) es
