-- Registers that agree in a pool still agree after the same access to one of the pool's places.
use Rattle.std.proofs.Common.{refl}
use Rattle.register_laws.specs.Prelude.{row_of}
use Rattle.register_laws.specs.Agreement.{PoolReadsKeepAgreement, PoolWritesKeepAgreement}
use Rattle.register_laws.proofs.Keeps.{keeps}

pub agree-read : PoolReadsKeepAgreement
agree-read mode v a b ha hb same p is = (keeps (row_of p.row).kind).read.agree mode v a b ha hb same p refl is

pub agree-write : PoolWritesKeepAgreement
agree-write mode v a b ha hb same p is view word =
    (keeps (row_of p.row).kind).write.agree view word mode v a b ha hb same p refl is
