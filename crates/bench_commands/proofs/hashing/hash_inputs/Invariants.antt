use Rattle.std.proofs.Common.{◌≡◌, []}
use Rattle.bench_commands.specs.Hash.{hashed, inputs_of}
use Rattle.bench_commands.proofs.hashing.hash_inputs.Given as goal

-- The hashes so far, followed by the hashes of the remaining lines, are the hashes of all lines.
abbrev pub invariant-loop-line : goal.invariant-loop-line
invariant-loop-line l = hashed l.key.0 l.hashes.items (inputs_of l.line-iterator)
    ≡ hashed l.key.0 [] (inputs_of l.fn.lines)
