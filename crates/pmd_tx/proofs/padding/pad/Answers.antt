use Rattle.std.proofs.Common.{◌≡◌, ◌-◌, ◌<◌, ◌≤◌, ℕ, replicate, take, refl, arith}
use Rattle.std.proofs.lemmas.Bool.{lt-ltb}
use Rattle.std.proofs.lemmas.List.{take-replicate}
use Rattle.pmd_tx.proofs.padding.pad.Goals as goal

pub returns : goal.returns
returns c =
    let short : c.args.packet.len < 60 = omega (arith, c.if-packet-ge-SHORTEST.false) in
    let le : 60 - c.args.packet.len ≤ 60 = omega arith in
    let zeros : take {A = ℕ} (60 - c.args.packet.len) (replicate 60 0) ≡ replicate (60 - c.args.packet.len) 0 =
    take-replicate (60 - c.args.packet.len) 60 0 le in
    rw (lt-ltb c.args.packet.len 60 short, c.put_first.ensures, c.from-len.ensures, zeros) refl
