-- A lemma about returning blocks to the arena, one block at a time.
use Rattle.std.proofs.Common.{◌≡◌, ℕ, ◌+◌, length, ap, add-one, arith}
use Rattle.std.proofs.lemmas.List.{nil_from_length}
use Rattle.pmd_access.specs.Home.{Bringing, BringsOne, Brings, BringsAll}

pub one_less : (s t : Bringing) → BringsOne s t → length t.way.lent + 1 ≡ length s.way.lent
one_less s t (n, is, how) = omega (arith, ap length is)

pub brings_more : (count : ℕ) (s m t : Bringing) → Brings count s m → BringsOne m t → Brings (count + 1) s t
brings_more count s m t before one = rw (add-one count) (m, before, one)

pub brings_all : (count : ℕ) (s t : Bringing) → Brings count s t → length t.way.lent ≡ 0 → BringsAll s t
brings_all count s t brings none = (count, brings, nil_from_length t.way.lent none)
