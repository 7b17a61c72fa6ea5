use Rattle.std.proofs.Common.{append_assoc}
use Rattle.program.proofs.writing.put_header.Goals as goal

pub returns : goal.returns
returns c =
    rw (
      c.in_ok-extend_from_slice-5.ensures.items,
      c.in_ok-extend_from_slice-4.ensures.items,
      c.in_ok-extend_from_slice-3.ensures.items,
      c.in_ok-extend_from_slice-2.ensures.items,
      c.in_ok-extend_from_slice.ensures.items,
      c.to_le_bytes-4.ensures,
      c.to_le_bytes-3.ensures,
      c.to_le_bytes-2.ensures,
      c.to_le_bytes.ensures,
    ) (simp append_assoc)
