-- What is true of a device between any two events, and of each event that a driver can cause.
use Rattle.std.specs.Prelude.{ℕ, ◌≡◌, ◌<◌, ◌≤◌, ◌^◌, IsTrue, IsFalse, List, [], ◌∷◌, length, slice_index_or, All, ⊤, Some}
use Rattle.std.specs.FinMap as map
use Rattle.rx_ring.specs.DmaArena.Block.{Block, IsBlock}
use Rattle.rx_ring.specs.DmaArena.Memory.{Memory, IsWhole}
use Rattle.eeprom_image.specs.Image.{IsImage}
use Rattle.rx_ring.specs.DmaRing.declared.dir.Dir.TheVariants.{Rx, Tx}
use Rattle.register_file.specs.RssHash.Choice.{code_of}
use Rattle.register_file.specs.RssHash.declared.choice.RssType.{RssType}
use Rattle.register_file.specs.Groups.{index_of}
use Rattle.register_file.specs.Queue.{is_on}
use Rattle.register_file.specs.Registers.{Registers}
use Rattle.register_laws.specs.Sound.{AreSound}
use Rattle.nic_device.specs.State.{State, Waiting}
use Rattle.nic_device.specs.declared.event.Event.{Event}
use Rattle.nic_device.specs.declared.event.Event.TheVariants as event
use Rattle.nic_device.specs.declared.event.Port.{Port}
use Rattle.nic_device.specs.declared.event.Port.TheVariants.{Pf, Vf}

-- Each element is a byte.
abbrev pub AreBytes : List ℕ → Type 0
AreBytes bytes = All (λ byte. byte < 256) bytes

-- Each lent block is 2,048 bytes long and has a number below 65,536.
pub record AreBlocks (m : Memory) : Type 0 where
  pub whole : IsWhole m
  pub bytes : (number : ℕ) (block : List ℕ) → map.get m number ≡ Some block → AreBytes block

-- This is the number of an RSS type.
abbrev pub IsTypeNumber : ℕ → Type 0
IsTypeNumber number = (type : RssType) × (code_of type ≡ number)

-- A frame in the receive list. The frame is at least 60 bytes long and at most as long as the maximum frame limit, and
-- some of its bytes remain to be written. Its queue is below 128, its RSS type exists, and its hash is a 32-bit word, 0
-- if the type is 0.
pub record IsWaiting (w : Waiting) : Type 0 where
  pub bytes : AreBytes w.frame
  pub least : 60 ≤ length w.frame
  pub most : length w.frame ≤ 65535
  pub offset : w.offset < length w.frame
  pub queue : w.queue < 128
  pub rss : IsTypeNumber w.rss
  pub hash : w.hash < 2 ^ 32
  pub unhashed : w.rss ≡ 0 → w.hash ≡ 0

-- A frame in the receive list with no byte written yet.
pub record IsUnbegun (w : Waiting) : Type 0 where
  pub waits : IsWaiting w
  pub none : w.offset ≡ 0

-- Of the frames in the receive list, only the first may be partly written.
abbrev pub AreWaiting : List Waiting → Type 0
AreWaiting [] = ⊤
AreWaiting (w ∷ others) = IsWaiting w × All IsUnbegun others

-- If part of a frame is written, the receive side of its queue is enabled.
abbrev pub IsBegunWhileOn : Registers → Waiting → Type 0
IsBegunWhileOn r w = 0 < w.offset → IsTrue (is_on r Rx w.queue)

-- The staged bytes of a queue, at most as many as the maximum frame limit.
pub record IsStaged (staged : List ℕ) : Type 0 where
  pub bytes : AreBytes staged
  pub short : length staged ≤ 65535

-- The list contains the staged bytes of each of the 128 queues.
pub record AreStaged (staged : List (List ℕ)) : Type 0 where
  pub queues : length staged ≡ 128
  pub each : All IsStaged staged

-- A disabled transmit side has no staged bytes.
abbrev pub AreStagedWhileOn : Registers → List (List ℕ) → Type 0
AreStagedWhileOn r staged = (queue : ℕ) → IsFalse (is_on r Tx queue) → slice_index_or staged queue [] ≡ []

-- A transmitted frame: its queue is below 128, and it isn't longer than the maximum frame limit.
pub record IsOut (sent : ℕ × List ℕ) : Type 0 where
  pub queue : sent.0 < 128
  pub bytes : AreBytes sent.1
  pub short : length sent.1 ≤ 65535

-- Every event preserves the following. The registers are sound and the lent blocks whole. Only the first frame of the
-- receive list may be partly written, on an enabled receive side, and the list contains no more frames than its
-- capacity. Each queue stages at most as many bytes as the maximum frame limit, and none while its transmit side is
-- disabled. Each transmitted frame is from a queue below 128 and no longer than the maximum frame limit. The image is
-- valid, there are at most 63 virtual functions, and the capacity of the list is 1 to 4,096.
pub record IsSound (s : State) : Type 0 where
  pub registers : AreSound s.registers
  pub blocks : AreBlocks s.memory
  pub waiting : AreWaiting s.waiting
  pub begun : All (IsBegunWhileOn s.registers) s.waiting
  pub room : length s.waiting ≤ s.fifo
  pub staged : AreStaged s.staged
  pub bare : AreStagedWhileOn s.registers s.staged
  pub out : All IsOut s.out
  pub image : IsImage s.image
  pub vfs : s.vfs ≤ 63
  pub some : 0 < s.fifo
  pub few : s.fifo ≤ 4096

-- A block that can be lent.
pub record IsLendable (block : Block) : Type 0 where
  pub whole : IsBlock block
  pub bytes : AreBytes block.bytes

-- The port of the physical function or of a virtual function.
abbrev pub IsPort : Port → Type 0
IsPort Pf = ⊤
IsPort (Vf v) = v < 2 ^ 8

-- An event that a driver can cause. Addresses, words and block numbers have 32 bits. A block is whole, a poke writes 16
-- bytes, and each byte is below 256. The numbers of queues and virtual functions fit their types.
abbrev pub IsEvent : Event Block → Type 0
IsEvent (event.Read port number) = IsPort port × (number < 2 ^ 32)
IsEvent (event.Write port number word) = IsPort port × (number < 2 ^ 32) × (word < 2 ^ 32)
IsEvent (event.Lend block) = IsLendable block
IsEvent (event.Take number) = number < 2 ^ 32
IsEvent (event.Peek16 address) = address < 2 ^ 32
IsEvent (event.Poke16 address bytes) = (address < 2 ^ 32) × (length bytes ≡ 16) × AreBytes bytes
IsEvent (event.Arrive frame) = AreBytes frame
IsEvent event.RxStep = ⊤
IsEvent (event.TxStep queue) = queue < 2 ^ 16
IsEvent (event.IntStep group) = index_of group < 2 ^ 8
IsEvent (event.QueueStep dir queue) = queue < 2 ^ 16
IsEvent event.EepromStep = ⊤
IsEvent (event.Link up) = ⊤
IsEvent event.Collect = ⊤
