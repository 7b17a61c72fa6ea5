use Rattle.std.proofs.Common.{◌≡◌, ◌%◌, slice_index, sym, ap, ◌∙◌, arith}
use Rattle.std.specs.Int.{to_le_bytes, w32}
use Rattle.rss_hash.specs.Registers.{bytes_of_registers, entry_of}
use Rattle.rss_hash.proofs.RegisterBytes.{register_byte_at}
use Rattle.rss_hash.proofs.redirection.entry_in.Goals as goal

pub returns-clause-value : goal.returns-clause-value
unfolding entry_of
returns-clause-value c = λ table whole stands.
    let n = c.args.hash % 128 in
    let at : slice_index (bytes_of_registers table) n ≡ slice_index (to_le_bytes w32 c.args.word) (c.args.hash % 4) =
    register_byte_at table n (omega arith)
    ∙ ap (λ word. slice_index (to_le_bytes w32 word) (n % 4)) stands
    ∙ ap (slice_index (to_le_bytes w32 c.args.word)) (omega arith) in
    ap (λ byte. byte % 16) (c.byte_of.ensures ∙ sym at)
