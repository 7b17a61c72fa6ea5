-- Lemmas about the memory after a slot is filled.
use Rattle.std.proofs.Common.{◌≡◌, ℕ, ◌-◌, ◌*◌, ◌^◌, ◌<◌, ◌≤◌, true, Some, List, length, take, sym, ap, ◌∙◌, arith}
use Rattle.std.specs.Prelude.{IsTrue}
use Rattle.std.proofs.lemmas.List.{length-take}
use Rattle.dma_arena.specs.Memory.{Memory, is_lent, read_at, write_at, IsWhole, SameLent, AreApart, LiesIn}
use Rattle.dma_arena.proofs.Bus.{is_lent-same, SameLent-write_at, IsWhole-write_at, byte_at-write_at_other, read_at-write_at_same, read_at-write_at_apart}
use Rattle.std.specs.FinMap as map
use Rattle.dma_arena.proofs.Blocks.{get-write_at_in, get-write_at_out}
use Rattle.dma_arena.proofs.Inside.{inside_avoids}
use Rattle.dma_ring.proofs.Fields.{halves_come_back, piece_is_reported}
use Rattle.dma_ring.specs.Descriptor.{first_half, second_half, of_halves}
use Rattle.dma_ring.specs.Receive.{written_back, is_done, ends_packet, bytes_in}
use Rattle.rx_ring.specs.declared.filled.Filled.{Filled}
use Rattle.rx_ring.specs.Fill.{Rest, memory_with}
use Rattle.rx_ring.specs.Laws.{ShowsPiece, ChangesOnlySlot, FillsBlocks}

-- What a driver reads from the slot.

abbrev bytes_of : Rest → Filled → List ℕ
bytes_of rest f = take f.len rest.bytes

abbrev descriptor_of : Rest → Filled → List ℕ
descriptor_of rest f = of_halves rest.first (written_back f.len f.end)

length-bytes_of : (rest : Rest) (f : Filled) → f.len ≤ length rest.bytes → length (bytes_of rest f) ≡ f.len
length-bytes_of rest f within = omega (arith, length-take f.len rest.bytes)

read_at-descriptor : (m : Memory) (rest : Rest) (f : Filled) → IsWhole m → IsTrue (is_lent m f.desc 16)
    → read_at (memory_with m rest f) f.desc 16 ≡ descriptor_of rest f
read_at-descriptor m rest f whole lent =
    let between : Memory = write_at m f.at (bytes_of rest f) in
    let halves = (halves_come_back rest.first (written_back f.len f.end)).size in
    let still : is_lent between f.desc 16 ≡ true =
    is_lent-same between m (SameLent-write_at m f.at (bytes_of rest f)) f.desc 16 ∙ lent in
    rw halves at
    (read_at-write_at_same between f.desc (descriptor_of rest f) (IsWhole-write_at m f.at (bytes_of rest f) whole)
    (rw halves still))

read_at-bytes : (m : Memory) (rest : Rest) (f : Filled) → IsWhole m → f.len ≤ length rest.bytes
    → IsTrue (is_lent m f.at f.len) → AreApart f.at f.len f.desc 16
    → read_at (memory_with m rest f) f.at f.len ≡ bytes_of rest f
read_at-bytes m rest f whole within lent apart =
    let between : Memory = write_at m f.at (bytes_of rest f) in
    let size = length-bytes_of rest f within in
    let halves = (halves_come_back rest.first (written_back f.len f.end)).size in
    read_at-write_at_apart between f.desc (descriptor_of rest f) f.at f.len (rw halves apart)
    ∙ rw size at (read_at-write_at_same m f.at (bytes_of rest f) whole (rw size lent))

pub ShowsPiece-memory_with : (m : Memory) (rest : Rest) (f : Filled) → IsWhole m → rest.first < 2 ^ 64 → f.len < 2 ^ 16
    → f.len ≤ length rest.bytes
    → IsTrue (is_lent m f.desc 16) → IsTrue (is_lent m f.at f.len) → ShowsPiece (memory_with m rest f) rest f
ShowsPiece-memory_with m rest f whole fits short within descriptor buffer =
    let read = read_at-descriptor m rest f whole descriptor in
    let halves = halves_come_back rest.first (written_back f.len f.end) in
    let reported = piece_is_reported f.len f.end short in
    let second : second_half (read_at (memory_with m rest f) f.desc 16) ≡ written_back f.len f.end =
    ap second_half read ∙ halves.second reported.fits in
    record {
      done = ap is_done second ∙ reported.done;
      end = ap ends_packet second ∙ reported.end;
      len = ap bytes_in second ∙ reported.len;
      first = ap first_half read ∙ halves.first fits;
      bytes = read_at-bytes m rest f whole within buffer;
    }

-- What is unchanged.

pub ChangesOnlySlot-memory_with : (m : Memory) (rest : Rest) (f : Filled) → f.len ≤ length rest.bytes
    → ChangesOnlySlot m (memory_with m rest f) f
ChangesOnlySlot-memory_with m rest f within =
    let between : Memory = write_at m f.at (bytes_of rest f) in
    let size = length-bytes_of rest f within in
    let halves = (halves_come_back rest.first (written_back f.len f.end)).size in
    record {
      bytes = λ a desc at.
          byte_at-write_at_other between f.desc (descriptor_of rest f) a (rw halves desc)
          ∙ byte_at-write_at_other m f.at (bytes_of rest f) a (rw size at);
      reads = λ a n desc at.
          read_at-write_at_apart between f.desc (descriptor_of rest f) a n (rw halves desc)
          ∙ read_at-write_at_apart m f.at (bytes_of rest f) a n (rw size at);
      blocks = λ number desc at.
          get-write_at_out between f.desc (descriptor_of rest f) number (rw halves desc)
          ∙ get-write_at_out m f.at (bytes_of rest f) number (rw size at);
    }

pub SameLent-memory_with : (m : Memory) (rest : Rest) (f : Filled) → SameLent (memory_with m rest f) m
SameLent-memory_with m rest f number =
    SameLent-write_at (write_at m f.at (bytes_of rest f)) f.desc (descriptor_of rest f) number
    ∙ SameLent-write_at m f.at (bytes_of rest f) number

pub IsWhole-memory_with : (m : Memory) (rest : Rest) (f : Filled) → IsWhole m → IsWhole (memory_with m rest f)
IsWhole-memory_with m rest f whole =
    IsWhole-write_at (write_at m f.at (bytes_of rest f)) f.desc (descriptor_of rest f)
    (IsWhole-write_at m f.at (bytes_of rest f) whole)

-- The memory, block by block.

pub FillsBlocks-memory_with : (m : Memory) (rest : Rest) (f : Filled) (ring buffer : ℕ)
    → IsWhole m → f.len ≤ length rest.bytes → LiesIn ring f.desc 16 → LiesIn buffer f.at f.len
    → FillsBlocks m (memory_with m rest f) rest f ring buffer
FillsBlocks-memory_with m rest f ring buffer whole within desc at =
    let between : Memory = write_at m f.at (bytes_of rest f) in
    let size = length-bytes_of rest f within in
    let halves = (halves_come_back rest.first (written_back f.len f.end)).size in
    let block : IsWhole between = IsWhole-write_at m f.at (bytes_of rest f) whole in
    record {
      others = λ number ring_not buffer_not.
          (ChangesOnlySlot-memory_with m rest f within).blocks number
          (inside_avoids ring number f.desc 16 desc ring_not) (inside_avoids buffer number f.at f.len at buffer_not);
      bytes = λ xs ne is.
          get-write_at_out between f.desc (descriptor_of rest f) buffer
          (rw halves (inside_avoids ring buffer f.desc 16 desc (λ e. ne (sym e))))
          ∙ get-write_at_in m f.at (bytes_of rest f) buffer (f.at - 2048 * buffer) xs is (whole.block buffer xs is).size
          (omega (arith, at)) (omega (arith, at, size));
      descriptor = λ xs ne is.
          let there : map.get between ring ≡ Some xs =
          get-write_at_out m f.at (bytes_of rest f) ring (rw size (inside_avoids buffer ring f.at f.len at ne)) ∙ is in
          get-write_at_in between f.desc (descriptor_of rest f) ring (f.desc - 2048 * ring) xs there
          (block.block ring xs there).size (omega (arith, desc)) (omega (arith, desc, halves));
    }
