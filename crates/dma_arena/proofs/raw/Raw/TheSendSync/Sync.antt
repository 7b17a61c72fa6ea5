use denote.RattleType.{RattleType}
use denote.Param.Send.{IsSync, struct_sync, sendable}
use denote.Builtin.{RawPtr}
use denote.Struct.Owning.{shape, to}
use Rattle.core.specs.declared.alloc.Allocator.{Ghosts}
use Rattle.std_alloc.proofs.SendSync.{seen}
use Rattle.dma_arena.specs.contracts.raw.Raw.{the_row, the_type}

pub sync : (T A : RattleType) (g : Ghosts A.Denot) → IsSync T → IsSync A → IsSync (the_row T A g)
sync T A g shared handle =
    let O = the_type T A g in let pointer : IsSync RawPtr = search sendable in
    record {
      shared = λ d b o κ. (
        (struct_sync (shape O) (pointer, (handle, tt))).shared (to O d) b o κ,
        seen T shared d.at d.value κ,
      );
    }
