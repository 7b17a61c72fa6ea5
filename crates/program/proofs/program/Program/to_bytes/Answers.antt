use Rattle.std.proofs.Common.{◌≡◌, List, ℕ, map, Result, Ok, Err, IfOk, OnOk, ap, ◌∙◌}
use Rattle.std.specs.List.{AllByRecursion}
use Rattle.program.specs.Encoding.{fields_of, HaveWidths}
use Rattle.program.specs.Listing.{Listing, IsListing}
use Rattle.program.specs.Object.{object_of, read_of}
use Rattle.program.proofs.ReadBack.{object-read}
use Rattle.program.proofs.program.Program.to_bytes.Goals as goal

read_if_ok : {B E : Type 0} (items : B → List ℕ) (r : Result B E) (program : Listing) → IsListing program →
    IfOk r (λ bytes. items bytes ≡ object_of program)
    → OnOk r (AllByRecursion HaveWidths (map fields_of program.instructions)) →
    IfOk r (λ bytes. read_of (items bytes) ≡ Ok program)
read_if_ok items (Ok bytes) program is spelled widths = ap read_of spelled ∙ object-read program is widths
read_if_ok items (Err error) program is spelled widths = tt

pub returns-clause-reads_back : goal.returns-clause-reads_back
returns-clause-reads_back c =
    let program : Listing = record {
      strings = c.self.inside.strings.items;
      instructions =
          c.self.inside.instructions.items;
    } in
    let bytes = rw (c.deref.ensures.value, c.deref-2.ensures.value) at c.object.ensures.bytes in
    let widths = rw c.deref-2.ensures.value at c.object.ensures.widths in
    rw (← c.self.view_is) (read_if_ok (λ bytes. bytes.items) c.object.result program c.self.invariant bytes widths)
