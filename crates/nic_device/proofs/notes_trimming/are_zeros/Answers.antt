use Rattle.std.proofs.Common.{◌≡◌, ◌∙◌, ℕ, arith, eqb, map, sym}
use Rattle.std.proofs.lemmas.Bool.{eqb-true}
use Rattle.std.proofs.lemmas.Simd.{bitmask_splat, length-chunk, none_from_empty_mask}
use Rattle.std.specs.Prelude.{not}
use lib.Lanes.{chunk, mask_l}
use mir.Syntax.{w8}
use Rattle.nic_device.proofs.Trimmed.{zero_from_not}
use Rattle.nic_device.proofs.notes_trimming.are_zeros.Goals as goal

pub returns : goal.returns
returns c =
    let bytes = chunk c.args.first 64 c.args.bytes.now in
    let long = length-chunk c.args.first 64 c.args.bytes.now c.requires in
    λ is k from end.
    let empty : mask_l (map (λ (x : ℕ). not (eqb x 0)) bytes) ≡ 0 =
    sym (bitmask_splat w8 (λ (a b : ℕ). not (eqb a b)) bytes 64 0 long (omega arith)) ∙ eqb-true _ _ is in
    zero_from_not _
    (none_from_empty_mask (λ (x : ℕ). not (eqb x 0)) c.args.bytes.now c.args.first 64 0 c.requires empty k from end)
