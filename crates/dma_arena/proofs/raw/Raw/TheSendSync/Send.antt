use mir.Raw.{raw}
use denote.Memory.{lone}
use denote.RattleType.{RattleType}
use denote.Param.Send.{IsSend, Frees, owning_send, struct_send, sendable}
use denote.Builtin.{RawPtr}
use denote.Struct.Struct.{exits_of}
use denote.Struct.Owning.{shape, fields, to}
use Rattle.core.specs.declared.alloc.Allocator.{Ghosts}
use Rattle.std_alloc.proofs.SendSync.{quiet, lies}
use Rattle.dma_arena.specs.contracts.raw.Raw.{the_row, the_type}

pub send : (T A : RattleType) (g : Ghosts A.Denot) → IsSend T → IsSend A → Frees g g.dealloc_token
    → IsSend (the_row T A g)
send T A g sent handle frees =
    let O = the_type T A g in let pointer : IsSend RawPtr = search sendable in
    owning_send O (pointer, (handle, tt))
    (λ d. (lies T sent d.at d.value, frees.frees d.alloc (raw (lone T.mir)) d.at))
    (λ k. quiet (to O) (exits_of k (fields O)) ((struct_send (shape O) (pointer, (handle, tt))).leaving k))
