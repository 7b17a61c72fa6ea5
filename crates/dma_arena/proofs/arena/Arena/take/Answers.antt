use Rattle.std.proofs.Common.{◌≡◌, true, false}
use Rattle.dma_arena.specs.Numbers.{is_free}
use Rattle.dma_arena.proofs.Numbers.{is_free-of_no_count}
use Rattle.dma_arena.proofs.arena.Arena.take.Goals as goal

pub returns-clause-none : goal.returns-clause-none
returns-clause-none c =
    let free : is_free c.args.self.now c.in_ok-number.number ≡ true = c.in_ok-number.ensures.free in (
      λ none. let h : is_free c.args.self.now c.in_ok-number.number ≡ false = c.take_at.ensures.none.0 none in cc,
      λ zero. let h : is_free c.args.self.now c.in_ok-number.number ≡ false =
          is_free-of_no_count c.args.self.now c.in_ok-number.number zero in cc,
    )
