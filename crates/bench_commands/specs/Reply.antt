-- Replies as text.
use Rattle.std.specs.Prelude.{List, ℕ, Bool, ◌++◌, codes, decimal, if◌then◌else◌}
use Rattle.program.specs.DmaArena.Block.{Block}
use Rattle.program.specs.DmaRing.declared.RingFault.{RingFault}
use Rattle.program.specs.DmaRing.declared.RingFault.TheVariants as fault
use Rattle.program.specs.IntrUnit.declared.Group.{Group}
use Rattle.program.specs.IntrUnit.declared.Group.TheVariants.{Pf, Vf}
use Rattle.nic_device.specs.declared.Reply.{Reply}
use Rattle.nic_device.specs.declared.Reply.TheVariants as reply
use Rattle.nic_device.specs.declared.Why.{Why}
use Rattle.nic_device.specs.declared.Why.TheVariants as why
use Rattle.text_format.specs.Bytes.{bytes_text}
use Rattle.text_format.specs.Word.{word_text, address_text}

-- The reason why a frame was dropped, as text.
abbrev pub why_text : Why → List ℕ
why_text why.LinkDown = codes "link down"
why_text why.Off = codes "off"
why_text why.Short = codes "short"
why_text why.Long = codes "long"
why_text why.Filter = codes "filter"
why_text why.NoPool = codes "no pool"
why_text why.PoolOff = codes "pool off"
why_text why.Full = codes "full"
why_text why.QueueOff = codes "queue off"
why_text why.NoSlot = codes "no slot"

-- The reason why a descriptor couldn't be processed, as text.
abbrev pub fault_text : RingFault → List ℕ
fault_text fault.Outside = codes "outside"
fault_text (fault.NotLent address) = codes "not lent " ++ address_text address
fault_text fault.DescType = codes "type"
fault_text fault.NoBufferSize = codes "no buffer size"
fault_text fault.Offload = codes "offload"
fault_text fault.Legacy = codes "legacy"
fault_text fault.TooLong = codes "too long"
fault_text fault.UnknownType = codes "unknown type"

-- A queue, as text: its number.
abbrev pub queue_text : ℕ → List ℕ
queue_text queue = codes "queue " ++ decimal queue

-- A slot in a queue's ring, as text.
abbrev pub slot_text : ℕ → ℕ → List ℕ
slot_text queue slot = queue_text queue ++ (codes " slot " ++ decimal slot)

-- Whether a frame ended.
abbrev pub end_text : Bool → List ℕ
end_text end = if end then codes "end" else codes "more"

-- An interrupt group: the physical function's, or a virtual function's by its number.
abbrev pub group_text : Group → List ℕ
group_text Pf = codes "pf"
group_text (Vf v) = codes "vf " ++ decimal v

-- The device's reply, as text.
abbrev pub reply_text : Reply Block → List ℕ
reply_text (reply.Word word) = codes "word " ++ word_text word
reply_text (reply.Stray word) = codes "stray " ++ word_text word
reply_text reply.Done = codes "done"
reply_text (reply.Bytes bytes) = codes "bytes " ++ bytes_text bytes
reply_text (reply.Buf block) = codes "taken " ++ decimal block.number
reply_text (reply.Twice block) = codes "twice"
reply_text reply.NotLent = codes "not lent"
reply_text reply.Misaligned = codes "misaligned"
reply_text reply.NoQueue = codes "no queue"
reply_text reply.NoGroup = codes "no group"
reply_text reply.Idle = codes "idle"
reply_text (reply.Dropped why) = codes "dropped " ++ why_text why
reply_text (reply.Wrote queue slot end desc at len) =
    codes "wrote " ++ (slot_text queue slot ++ (codes " " ++ end_text end))
reply_text (reply.Advanced queue slot back) = codes "advanced " ++ slot_text queue slot
reply_text (reply.Sent queue len back) = codes "sent " ++ (queue_text queue ++ (codes " len " ++ decimal len))
reply_text (reply.Fault queue fault) = codes "fault " ++ (queue_text queue ++ (codes " " ++ fault_text fault))
reply_text (reply.Message group vector) = codes "message " ++ (group_text group ++ (codes " vector " ++ decimal vector))
reply_text (reply.Frame queue bytes) = codes "frame " ++ (queue_text queue ++ (codes " " ++ bytes_text bytes))
