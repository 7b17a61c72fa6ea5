-- Register accesses leave the device sound and change nothing outside their reach.
use Rattle.std.proofs.Common.{ap, ◌≡◌, ℕ, cond, true, refl}
use Rattle.std.proofs.lemmas.Bool.{cond_both}
use Rattle.register_file.specs.RegTable.Rows.{row_of}
use Rattle.register_file.specs.RegTable.declared.place.Place.{Place}
use Rattle.register_file.specs.Access.{asks_reset, asks_pool_reset, after_read}
use Rattle.register_file.specs.Pools.{mode_in}
use Rattle.register_laws.specs.Laws.{after_write}
use Rattle.register_laws.specs.Footprint.{of_read}
use Rattle.register_laws.proofs.Sound.{sound-after_read}
use Rattle.register_laws.proofs.Within.{within-after_read, within-written}
use Rattle.nic_device.specs.Access.{named_read, named_written}
use Rattle.nic_device.specs.Named.{named}
use Rattle.nic_device.specs.Footprint.{read_reach, write_reach, StaysWithin}
use Rattle.nic_device.specs.Outcome.{Outcome, gives}
use Rattle.nic_device.specs.PoolReset.{with_pool_reset}
use Rattle.nic_device.proofs.PoolReset.{pool_reset_sound, pool_reset_stays, written_sound}
use Rattle.nic_device.specs.Eeprom.{reset}
use Rattle.nic_device.specs.State.{State}
use Rattle.nic_device.proofs.Triples.{reset_sound, reset_leaves}
use Rattle.rx_ring.specs.DmaArena.Memory.{Memory, has_block}
use Rattle.std.specs.FinMap as map
use Rattle.nic_device.proofs.Keeping.{sound-registers, stays-registers}
use Rattle.nic_device.proofs.Leads.{Leads, leads-still, leads-to}
use Rattle.nic_device.proofs.SidesOn.{on_kept, sides_kept, spares-of_read}
use Rattle.nic_device.specs.declared.event.Event.TheVariants as event
use Rattle.nic_device.specs.declared.event.Port.{Port}
use Rattle.nic_device.specs.declared.named.Named.{Named}
use Rattle.nic_device.specs.declared.named.Named.TheVariants.{Nothing, Register}
use Rattle.nic_device.specs.declared.event.Reply.TheVariants.{Stray, Done}

-- Reads and writes of a place, and accesses to a number without a register.

pub read_leads : (s : State) (port : Port) (n : ℕ) (m : Named)
    → ((r : Outcome) → StaysWithin (read_reach m) s r.state → StaysWithin (read_reach (named s port n)) s r.state)
    → Leads s (event.Read port n) (named_read s m)
read_leads s port n (Nothing seen) here = leads-still s (event.Read port n) (Stray seen) (λ no. refl)
read_leads s port n (Register p view) here =
    let r = after_read (row_of p.row).kind s.registers p in
    let within = within-after_read s.registers p in
    let sides = sides_kept (of_read p) s.registers r (spares-of_read p) within in
    leads-to s (event.Read port n) _ _
    (λ h is. sound-registers s r h (sound-after_read s.registers p h.registers) (on_kept s.registers r sides))
    (here (named_read s (Register p view)) (stays-registers (read_reach (Register p view)) s r within)) refl refl

reset_stays : (s : State) (p : Place) (view word : ℕ) → asks_reset (row_of p.row).kind word ≡ true
    → StaysWithin (write_reach (mode_in s.registers) (Register p view) word) s (reset s)
reset_stays s p view word asks = rw asks (record {
  registers = record { bits = λ q bit no. cc; wanted = λ dir queue no. cc; reported = λ g no. cc };
  blocks = λ n no. ap (λ (m : Memory). map.get m n) (reset_leaves s).memory;
  lent = λ n no. ap (λ (m : Memory). has_block m n) (reset_leaves s).memory;
  staged = λ queue no. cc;
  waiting = λ no. cc;
  out = λ no. (reset_leaves s).out;
  link = λ no. (reset_leaves s).link;
  image = (reset_leaves s).image;
  vfs = (reset_leaves s).vfs;
  fifo = (reset_leaves s).fifo;
})

pub write_leads : (s : State) (port : Port) (n word : ℕ) (m : Named)
    → ((r : Outcome) → StaysWithin (write_reach (mode_in s.registers) m word) s r.state
    → StaysWithin (write_reach (mode_in s.registers) (named s port n) word) s r.state)
    → Leads s (event.Write port n word) (named_written s m word)
write_leads s port n word (Nothing seen) here = leads-still s (event.Write port n word) (Stray 0) (λ no. refl)
write_leads s port n word (Register p view) here =
    let r = after_write s.registers p view word in
    let pool = with_pool_reset s p.index in
    let asked = asks_pool_reset (row_of p.row).kind word in
    let e = event.Write port n word in
    let P : State → Type 0 = λ t. Leads s e (gives Done t) in
    let reach = write_reach (mode_in s.registers) (Register p view) word in
    cond_both (asks_reset (row_of p.row).kind word) (reset s) (cond asked pool (record s { registers = r })) P
    (λ asks. leads-to s e Done _ (λ h is. reset_sound s h)
    (here (gives Done (reset s)) (reset_stays s p view word asks)) refl (reset_leaves s).memory)
    (λ none. cond_both asked pool (record s { registers = r }) P
    (λ asks. leads-to s e Done _ (λ h is. pool_reset_sound s p.index h)
    (here (gives Done pool) (rw (none, asks) (pool_reset_stays s p.index))) refl refl)
    (λ plain. leads-to s e Done _
    (λ h is. written_sound s p view word h)
    (here (gives Done (record s { registers = r }))
    (stays-registers reach s r (rw (none, plain) (within-written s.registers p view word)))) refl refl))
