-- Registers that agree in a pool return the same words at the pool's places.
use Rattle.std.proofs.Common.{◌≡◌, cond, refl, ap}
use Rattle.register_laws.specs.Prelude.{read_word, row_of}
use Rattle.register_laws.specs.Agreement.{SharedReadsTellTheSame, PoolReadsTellTheSame}
use Rattle.register_laws.proofs.PoolPlaces.{shared_rows}
use Rattle.register_laws.proofs.Keeps.{keeps}

pub same_shared : SharedReadsTellTheSame
same_shared a b e around p is =
    shared_rows (λ x. read_word (row_of x).kind a around (record { row = x; index = p.index })
    ≡ read_word (row_of x).kind b around (record { row = x; index = p.index }))
    (ap (λ t. cond t 0 0x00080000) e) refl p is

pub same_reported : PoolReadsTellTheSame
same_reported mode v a b same around p is = (keeps (row_of p.row).kind).given mode v a b same around p refl is
