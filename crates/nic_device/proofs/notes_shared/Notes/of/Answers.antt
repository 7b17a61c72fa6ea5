use Rattle.std.proofs.Common.{◌≡◌, ◌≤◌, List, ℕ, length, ap, sym, arith}
use Rattle.std.proofs.lemmas.List.{length-take-le}
use Rattle.nic_device.specs.NotesTrimming.{kept_len}
use Rattle.nic_device.proofs.Trimmed.{kept_len_le}
use Rattle.nic_device.proofs.notes_shared.Notes.of.Goals as goal

few : (bytes block : List ℕ) (kept : ℕ) → kept ≡ kept_len block → bytes ≡ block → kept ≤ length bytes
few bytes block kept is same =
    let most = kept_len_le block in
    let long = ap length same in
    omega (arith, most, is, long)

pub slice_bounds-last_at-end : goal.slice_bounds-last_at-end
slice_bounds-last_at-end c =
    sym (length-take-le c.kept_in-kept.result c.bytes.result.now
    (few c.bytes.result.now c.args.buf.now.bytes c.kept_in-kept.result c.kept_in-kept.ensures c.bytes.ensures.value))

pub slice_bounds-copied-end : goal.slice_bounds-copied-end
slice_bounds-copied-end c =
    sym (length-take-le c.kept_in-kept.result c.bytes.result.now
    (few c.bytes.result.now c.args.buf.now.bytes c.kept_in-kept.result c.kept_in-kept.ensures c.bytes.ensures.value))
