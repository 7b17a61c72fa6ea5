-- Lemmas about what each step of a start requires and in which state it leaves the driver.
use Rattle.std.proofs.Common.{◌≡◌, ◌<◌, ℕ, List, inl, inr, Ok, Err, refl, sym, ap, subst, ◌∙◌, arith}
use Rattle.pmd_access.specs.NicDevice.DmaArena.Numbers.{Numbers}
use Rattle.pmd_access.specs.NicDevice.DmaRing.declared.dir.Dir.TheVariants.{Tx}
use Rattle.pmd_access.specs.DeviceLock.declared.entry.Call.{Call}
use Rattle.pmd_access.specs.Home.{IsDrawn}
use Rattle.pmd_access.specs.Named.{AtPort}
use Rattle.pmd_access.specs.Slots.{ring_blocks}
use Rattle.pmd_access.specs.declared.fault.PmdFault.{PmdFault}
use Rattle.pmd_rx.specs.Keeping.{blocks_out}
use Rattle.pmd_rx.specs.Receive.{Receive}
use Rattle.pmd_tx.specs.Sending.{Sender}
use Rattle.pmd_driver.specs.Halted.{with_receive_ring, with_rings}
use Rattle.pmd_driver.specs.Rising.{GoesUp, HasPlace, HasPlaces, IsEmpty, StartsUp, StopsShort}
use Rattle.pmd_driver.specs.Running.{Running, IsUp, kept_out}
use Rattle.pmd_driver.specs.Started.{IsLeftWith}
use Rattle.pmd_driver.specs.Starting.{IsReceiveReady, IsTransmitReady, PreparingFails, ReceiveFails}
use Rattle.pmd_driver.specs.declared.driver.Rings.TheVariants.{Up, Down}
use Rattle.pmd_driver.specs.declared.start.Rest.TheVariants as rest
use Rattle.pmd_driver.specs.declared.start.StartRefused.{StartRefused}
use Rattle.pmd_driver.proofs.Late.{preparing_late, receive_late}
use Rattle.pmd_driver.proofs.Leaving.{before_handed, ready_handed}
use Rattle.pmd_driver.proofs.Rising.{after_all, before_whole, filled_all}
use Rattle.pmd_driver.proofs.Starting.{filled_rings, one_out, prepared_count, receive_drawn, rings_out, still_free}

abbrev up : Numbers → Receive → Sender → Running
up a v s = record { arena = a; receive = v; transmit = s }

-- Each ring has its place in free blocks.

pub first_place : {a : Numbers} {size frame first second : ℕ} → HasPlaces a size frame first second
    → HasPlace a first size
first_place p = record {
  some = p.some;
  few = p.few;
  low = omega (arith, p.runs.apart, p.runs.low);
  free = p.runs.one;
}

pub second_place : {a b : Numbers} {size frame first second : ℕ} → HasPlaces a size frame first second
    → IsDrawn a (ring_blocks first size) b → HasPlace b second size
second_place {a} {b} {size} {frame} {first} {second} p drawn = record {
  some = p.some;
  few = p.few;
  low = p.runs.low;
  free = still_free a first size b second _ drawn p.runs.apart p.runs.two;
}

module _ {q : AtPort} {size frame : ℕ} {old mid : List Call} {a b : Numbers} where
  -- If the receive ring wasn't prepared, the start stops short.
  pub stops_before : {f : PmdFault} {out : List ℕ} (e : StartRefused) → e.fault ≡ f
      → ReceiveFails f q size old a mid b out → IsLeftWith q b out e.rest → StopsShort q size frame old a mid e
  stops_before {f} {out} e is fails left = record {
    stops = inl (record { arena = b; out = out; fails = rw is fails; left = left });
    late = rw is (receive_late f q size old a mid b out fails);
    none = before_handed q b out e.rest left;
    whole = before_whole a q b out e.rest (receive_drawn f q size old a mid b out fails) left;
  }

  module _ {new : List Call} {d : Numbers} {v : Receive} (ready : IsReceiveReady q size frame old a mid b v) where
    -- If the transmit ring wasn't prepared, the start stops short.
    pub stops_after : {f : PmdFault} {out : List ℕ} → PreparingFails f q Tx size mid b new d out
        → StopsShort q size frame old a new (record {
          fault = f;
          rest = rest.Running (record { queue = q; rings = Down (with_receive_ring d v out) });
        })
    stops_after {f} {out} fails =
        let all = after_all ready fails in
        record {
          stops = inr (inl (record {
            made = mid;
            ready_arena = b;
            arena = d;
            empty = v;
            out = out;
            receive = ready;
            fails = fails;
            left = refl;
          }));
          late = preparing_late f q Tx size mid b new d out fails;
          none = ready_handed ready;
          whole = (all.owns, λ none. all);
        }

    -- What holds after both rings were prepared.
    module _ {first second : ℕ} {s : Sender} (places : HasPlaces a size frame first second)
        (also : IsTransmitReady q size frame mid b new d s)
      where
        pub both_empty : IsEmpty d v
        both_empty = record {
          empty = ap (λ (x : Receive). x.layout.blocks) ready.fresh;
          stage = ap (λ (x : Receive). x.stage) ready.fresh;
          unseen = (ap (λ (x : Receive). x.seen) ready.fresh, ap (λ (x : Receive). x.held) ready.fresh);
          idle = (ap (λ (x : Receive). x.whole) ready.fresh, ap (λ (x : Receive). x.named) ready.fresh);
          home = one_out d (blocks_out v) (kept_out s) (rings_out ready also);
          enough = omega (
            arith,
            places.enough,
            ap (λ (x : Receive). x.layout.size) ready.fresh,
            prepared_count ready.prepared,
            prepared_count also.prepared,
          );
        }

        module _ {last : List Call} {c : Numbers} {w : Receive} where
          -- If a side wasn't enabled, or the receive ring wasn't filled, the start stops short.
          pub stops_late : {f : PmdFault} → GoesUp (Err f) q new d v last c w → StopsShort q size frame old a last
              (record { fault = f; rest = rest.Running (record { queue = q; rings = Down (with_rings c w s) }) })
          stops_late {f} goes =
              let all = filled_all ready also goes.keeps in
              record {
                stops = inr (inr (record {
                  sized = places.sized;
                  framed = places.framed;
                  ready_made = mid;
                  both_made = new;
                  ready_arena = b;
                  both_arena = d;
                  arena = c;
                  empty = v;
                  filled = w;
                  sender = s;
                  receive = ready;
                  transmit = also;
                  fails = goes.failed;
                  left = refl;
                }));
                late = goes.late;
                none = goes.handed ∙ ready_handed ready;
                whole = (all.owns, λ none. all);
              }

          pub is_up : GoesUp (Ok tt) q new d v last c w → IsUp (up c w s)
          is_up goes = record {
            home = filled_rings ready also goes.keeps;
            filled = goes.running;
            some = subst (λ (x : Sender). 0 < x.layout.size) (sym also.fresh) (omega (arith, places.some));
          }

          pub starts_up : GoesUp (Ok tt) q new d v last c w
              → StartsUp q size frame old a last (record { queue = q; rings = Up (up c w s) })
          starts_up goes = record {
            started = (
              up c w s,
              refl,
              record {
                sized = places.sized;
                framed = places.framed;
                ready_made = mid;
                both_made = new;
                ready_arena = b;
                both_arena = d;
                empty = v;
                receive = ready;
                transmit = also;
                on = goes.on;
              },
            );
            none = goes.handed ∙ ready_handed ready;
            all = filled_all ready also goes.keeps;
          }
