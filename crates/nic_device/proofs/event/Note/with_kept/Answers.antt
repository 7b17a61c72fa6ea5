use Rattle.std.proofs.Common.{◌≡◌, ◌≤◌, List, ℕ, length, ap, sym, ◌∙◌, arith}
use Rattle.std.proofs.lemmas.List.{length-take-le}
use Rattle.nic_device.specs.NotesTrimming.{kept_len}
use Rattle.nic_device.proofs.Trimmed.{kept_len_le}
use Rattle.nic_device.proofs.event.Note.with_kept.Goals as goal

few : (bytes : List ℕ) (kept : ℕ) → kept ≡ kept_len bytes → kept ≤ length bytes
few bytes kept is = let most = kept_len_le bytes in omega (arith, most, is)

pub slice_bounds-fitted-end : goal.slice_bounds-fitted-end
slice_bounds-fitted-end c =
    sym (length-take-le c.args.kept c.bytes.result.now
    (few c.bytes.result.now c.args.kept (c.requires.kept ∙ ap kept_len (sym c.bytes.ensures.value))))
