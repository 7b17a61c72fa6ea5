use Rattle.std.proofs.Common.{arith}
use Rattle.dma_arena.proofs.Bytes.{length-put_bytes, part-put_bytes_same, part-put_bytes_other}
use Rattle.dma_arena.proofs.laws.put.Goals as goal

pub returns : goal.returns
returns c =
    λ block at bytes room. (
      length-put_bytes block at bytes room,
      part-put_bytes_same block at bytes (omega arith),
      λ from n apart. part-put_bytes_other block at bytes from n room apart,
    )
