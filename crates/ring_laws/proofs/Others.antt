-- Which other events leave a queue alone, and which entries of a history count.
use Rattle.std.proofs.Common.{◌≡◌, ℕ, false, eqb, List, [], ◌∷◌, ◌++◌, refl, ap, sym, ◌∙◌}
use Rattle.std.proofs.lemmas.Bool.{both_ways, or_parts}
use Rattle.ring_laws.specs.Leaving.{HistoriesLeave, HistoriesLeaveQueues, OthersLeaveQueues, BlocksAreOfTheirPass}
use Rattle.ring_laws.specs.Leaving.{NothingElseCounts, SparingIsEnough}
use Rattle.ring_laws.specs.LocksPrelude.{Entry, Watched, has_begun}

pub others_leave : OthersLeaveQueues
others_leave w mode mine = (
  record {
    lend = λ block. (λ h. h, λ h. h);
    take = λ number. (λ h. h, λ h. h);
    poke = λ address bytes. (λ h. h, λ h. h);
    write = λ port number word. tt;
  },
  record {
    piece = λ q slot desc at len end other. (λ h. h other, λ h differs. h);
    own = λ slot desc at len end other. absurd (other refl);
    head = λ q slot back other. (λ h. h other, λ h differs. h);
    sent_head = λ q len back other. (λ h. h other, λ h differs. h);
    no_head = λ q slot. tt;
    no_sent_head = λ q len. tt;
  },
)

pub nothing_else : NothingElseCounts
nothing_else w mode mine = (
  record {
    lend = λ block. tt;
    take = λ number. tt;
    poke = λ address bytes. tt;
    read = λ port number. (tt, tt);
    peek = λ address. (tt, tt);
    arrive = λ frame. (tt, tt);
    rx = (tt, tt);
    tx = λ queue. (tt, tt);
    int = λ group. (tt, tt);
    switch = λ dir queue. (tt, tt);
    eeprom = (tt, tt);
    link = λ up. (tt, tt);
    collect = (tt, tt);
  },
  record {
    word = λ word. tt;
    stray = λ word. tt;
    done = tt;
    bytes = λ bytes. tt;
    buf = λ block. tt;
    twice = λ block. tt;
    not_lent = tt;
    misaligned = tt;
    no_queue = tt;
    no_group = tt;
    idle = tt;
    dropped = λ why. tt;
    fault = λ q fault. tt;
    message = λ group vector. tt;
    frame = λ q bytes. tt;
  },
)

-- If a pass hasn't begun before the last entry of a history, it hasn't begun before any of its entries.
begins_no_earlier : (pass : ℕ) (h before after : List Entry) (e other : Entry) →
    h ++ e ∷ [] ≡ before ++ other ∷ after → has_begun pass h ≡ false → has_begun pass before ≡ false
begins_no_earlier pass h [] after e other split not_yet = refl
begins_no_earlier pass [] (b ∷ before) after e other split not_yet =
    absurd (no_rest before (sym (ap (λ (es : List Entry). tail es) split))) where
      tail : List Entry → List Entry
      tail [] = []
      tail (x ∷ xs) = xs

      no_rest : (xs : List Entry) → xs ++ other ∷ after ≡ [] → ⊥
      no_rest [] h = cc
      no_rest (x ∷ xs) h = cc
begins_no_earlier pass (x ∷ h) (b ∷ before) after e other split not_yet =
    let parts = or_parts (eqb x.pass pass) (has_begun pass h) not_yet in
    let same : x ≡ b = cc in
    let rest : h ++ e ∷ [] ≡ before ++ other ∷ after = cc in
    rw (sym (ap (λ (y : Entry). eqb y.pass pass) same) ∙ parts.0)
    (begins_no_earlier pass h before after e other rest parts.1)

histories_leave_one : (w : Watched) (h : List Entry) (e : Entry) → HistoriesLeave w h e
histories_leave_one w h e = record {
  before = λ not_yet before other after split begun.
      absurd (both_ways (has_begun w.pass before)
      (begins_no_earlier w.pass h before after e other split not_yet) begun);
  register = λ after begun differs ends leaves. ends ((leaves h e after refl begun).registers differs);
  block = λ after begun differs ends leaves. ends ((leaves h e after refl begun).blocks differs);
  step = λ after begun ends leaves. ends ((leaves h e after refl begun).steps);
}

pub histories_leave : HistoriesLeaveQueues
histories_leave w h e = histories_leave_one w h e

pub blocks_of_pass : BlocksAreOfTheirPass
blocks_of_pass pass number h e = record { none = refl; one_more = refl }

pub sparing_suffices : SparingIsEnough
sparing_suffices w h each before e after split begun =
    let spares = each before e after split begun in
    record { registers = spares.registers; blocks = spares.blocks; steps = spares.step }
