-- The state of a device between two events.
use Rattle.std.specs.Prelude.{ℕ, Bool, true, List, [], replicate, refl}
use Rattle.std.specs.Coded.{Coded, code_by, coded×, coded_ℕ, coded_bool, coded_list}
use Rattle.std.specs.FinMap as map
use Rattle.rx_ring.specs.DmaArena.Memory.{Memory}
use Rattle.eeprom_image.specs.Image.{blank}
use Rattle.register_file.specs.Registers.{Registers, registers_code, reset_registers}

-- A frame in the receive list: its bytes, its queue, its hash and RSS type, and how many of its bytes are written.
pub record Waiting : Type 0 where
  pub frame : List ℕ
  pub queue : ℕ
  pub hash : ℕ
  pub rss : ℕ
  pub offset : ℕ

abbrev pub code_bytes : Coded (List ℕ)
code_bytes = coded_list coded_ℕ

abbrev pub waiting_code : Coded Waiting
waiting_code =
    code_by (List ℕ × (ℕ × (ℕ × (ℕ × ℕ))))
    (coded× code_bytes (coded× coded_ℕ (coded× coded_ℕ (coded× coded_ℕ coded_ℕ))))
    (λ w. (w.frame, (w.queue, (w.hash, (w.rss, w.offset)))))
    (λ p. record { frame = p.0; queue = p.1.0; hash = p.1.1.0; rss = p.1.1.1.0; offset = p.1.1.1.1 })
    (λ _. refl)

-- The state of a device: its registers; the memory lent to it; the receive list; the bytes staged by each transmit
-- queue; the transmitted frames; whether the link is up; the words of the EEPROM image; and its configuration. The
-- transmitted frames are those not yet collected, oldest first, each with its queue.
pub record State : Type 0 where
  pub registers : Registers
  pub memory : Memory
  pub waiting : List Waiting
  pub staged : List (List ℕ)
  pub out : List (ℕ × List ℕ)
  pub link : Bool
  pub image : List ℕ
  pub vfs : ℕ
  pub fifo : ℕ

abbrev pub Parts : Type 0
Parts = Registers × (Memory × (List Waiting × (List (List ℕ) × (List (ℕ × List ℕ) × (Bool × (List ℕ × (ℕ × ℕ)))))))

-- A state is stored as nested pairs of its fields.
abbrev pub state_code : Coded State
state_code =
    code_by Parts
    (coded× registers_code (coded× (map.code coded_ℕ code_bytes)
    (coded× (coded_list waiting_code) (coded× (coded_list code_bytes)
    (coded× (coded_list (coded× coded_ℕ code_bytes))
    (coded× coded_bool (coded× (coded_list coded_ℕ) (coded× coded_ℕ coded_ℕ))))))))
    (λ s. (s.registers, (s.memory, (s.waiting, (s.staged, (s.out, (s.link, (s.image, (s.vfs, s.fifo)))))))))
    (λ p. record {
      registers = p.0;
      memory = p.1.0;
      waiting = p.1.1.0;
      staged = p.1.1.1.0;
      out = p.1.1.1.1.0;
      link = p.1.1.1.1.1.0;
      image = p.1.1.1.1.1.1.0;
      vfs = p.1.1.1.1.1.1.1.0;
      fifo = p.1.1.1.1.1.1.1.1;
    })
    (λ _. refl)

-- No transmit queue has staged bytes.
abbrev pub none_staged : List (List ℕ)
none_staged = replicate 128 []

-- A new device: it is reset, no memory is lent, there are no frames, the link is up, and the image is blank.
abbrev pub new_state : ℕ → ℕ → State
new_state vfs fifo = record {
  registers = reset_registers;
  memory = map.empty;
  waiting = [];
  staged = none_staged;
  out = [];
  link = true;
  image = blank;
  vfs = vfs;
  fifo = fifo;
}

-- What a device reset clears before it writes registers from the image: the registers, the enable requests, the receive
-- list and the staged bytes. Lent memory, transmitted frames, the link and the image are unchanged.
abbrev pub cleared : State → State
cleared s = record s { registers = reset_registers; waiting = []; staged = none_staged }
