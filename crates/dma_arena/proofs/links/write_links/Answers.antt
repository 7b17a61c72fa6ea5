use Rattle.std.proofs.Common.{◌≡◌}
use Rattle.std.specs.Int.{w32, to_le_bytes, from_le_bytes}
use Rattle.std.proofs.lemmas.Nat.{from_le_bytes-to_le_bytes_4}
use Rattle.dma_arena.specs.Links.{links_of}
use Rattle.dma_arena.proofs.links.write_links.Goals as goal

pub returns : goal.returns
unfolding links_of
returns c =
    let next : from_le_bytes w32 (to_le_bytes w32 c.args.next) ≡ c.args.next =
    from_le_bytes-to_le_bytes_4 c.args.next c.ranges.next.fits in
    let prev : from_le_bytes w32 (to_le_bytes w32 c.args.prev) ≡ c.args.prev =
    from_le_bytes-to_le_bytes_4 c.args.prev c.ranges.prev.fits in
    rw (
      c.copy_from_slice-2.ensures.after,
      c.copy_from_slice.ensures.after,
      c.to_le_bytes.ensures,
      c.to_le_bytes-2.ensures,
    ) (λ i. record { next = next i; prev = prev i })
