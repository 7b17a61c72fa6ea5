-- If a shared borrow of the value exists, a shared borrow of the memory exists. Assumes `Logic`.
use mathlib.Core.List.{[], ◌++◌}
use base.Fraction.{full_share}
use base.Fml.{Incl-trans}
use contract.BorrowLft.{meet_⊑_left}
use mir.Raw.{raw as bare}
use denote.RattleType.{RattleType}
use denote.Memory.{lone}
use denote.RawPtr.{lies_at}
use denote.Shares.{Shares-less}
use denote.Param.Laws.{Laws, row_shared}
use denote.Param.Shared.{copy_shared}
use denote.Struct.Field.{RawPtr-field}
use denote.Struct.Laws.{RawPtr-copy}
use denote.Struct.Lending.{lent_at, lent_at_shr_laws, Lends-lies, Lends-first, of_Lends}
use Rattle.core.specs.declared.alloc.Allocator.{Ghosts}
use Rattle.dma_arena.specs.contracts.raw.Raw as C
use Rattle.dma_arena.proofs.raw.Raw.TheLaw.Statement.{statement}

pub shares : (T A : RattleType) (g : Ghosts A.Denot) (L : Laws T) (K : Laws A) → statement T A g L K
shares T A g L K =
    of_Lends (C.struct T A g) (C.the_codes T.Denot A.Denot T.coded A.coded) (C.the_heap T A g) (C.the_lent T A g)
    (λ d p. lent_at_shr_laws T L.shr_laws d.at d.value) (copy_shared RawPtr-field RawPtr-copy, (row_shared A K, tt))
    (λ M 𝓤 𝓛 d p. let l = (C.the_row T A g).lives in
    let within = Incl-trans (meet_⊑_left (T.lives ++ (A.lives ++ [])) _) (meet_⊑_left T.lives (A.lives ++ [])) in
    Lends-first 𝓛 (lies_at T full_share d.at d.value) (g.dealloc_token d.alloc (bare (lone T.mir)) d.at)
    (lent_at T d.at d.value) l
    (Lends-lies 𝓛 T l d.at d.value (Shares-less 𝓛 T T.lives l within (L.shares 𝓛) d.value)))
