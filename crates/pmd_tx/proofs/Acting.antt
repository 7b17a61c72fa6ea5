-- Lemmas about successive driver calls, each with a record of its effect.
use Rattle.std.proofs.Common.{◌≡◌, ℕ, ◌+◌, ◌<◌, List, length, drop, true, false, if◌then◌else◌, Option, Some, None, Result, Ok, Err, IfSome, IfErr, refl, ap, ◌∙◌, subst, sym, add-zero, arith}
use Rattle.std.proofs.lemmas.List.{length-drop}
use Rattle.pmd_access.specs.NicDevice.DmaArena.Block.{Block}
use Rattle.pmd_access.specs.NicDevice.DmaArena.Numbers.{Numbers, with_free}
use Rattle.pmd_access.specs.NicDevice.declared.event.Event.{Event}
use Rattle.pmd_access.specs.NicDevice.declared.event.Reply.{Reply}
use Rattle.pmd_access.specs.Bufs.{numbers_of, with_all_free}
use Rattle.pmd_access.specs.DeviceLock.declared.entry.Call.{Call}
use Rattle.pmd_access.specs.DeviceLock.declared.fault.CallFault.{CallFault}
use Rattle.pmd_access.specs.Home.{AreOut}
use Rattle.pmd_access.specs.Made.{Adds, AddsSome}
use Rattle.pmd_access.specs.declared.fault.PmdFault.{PmdFault}
use Rattle.pmd_access.specs.declared.fault.PmdFault.TheVariants as fault
use Rattle.pmd_access.specs.declared.packet.Packet.{Packet}
use Rattle.pmd_tx.specs.declared.answer.TxAnswer.{TxAnswer}
use Rattle.pmd_tx.specs.declared.answer.TxAnswer.TheVariants.{Taken}
use Rattle.pmd_tx.specs.declared.answer.TxFault.{TxFault}
use Rattle.pmd_tx.specs.Acts.{Acts, Continues, Queues, HasReaped, failed_in}
use Rattle.pmd_tx.specs.Plays.{AcceptsIn, FaultsBy, PlaysWith, is_elsewhere}
use Rattle.pmd_tx.specs.Sending.{Sender, Layout, Move, IsOwn, accepted_by, blocks_of, is_healthy, moved, parts_for, reaped, segment_at}
use Rattle.pmd_tx.specs.Sends.{IsBack, IsLate, IsNoneAccepted, outgoing_of, returned}
use Rattle.pmd_tx.proofs.Ending.{after_all, by_after}
use Rattle.pmd_tx.proofs.Freeing.{frees_both, frees_from, frees_none, frees_one, out_rest}
use Rattle.pmd_tx.proofs.Passing.{accepted_after, accepted_then, kept_after, none_both}
use Rattle.pmd_tx.proofs.Playing.{asks_at, faults_at, plays_adds, plays_both, plays_none, plays_some}

-- If the fault in a result has a property, the result's error has it too.
pub failed_by : {A : Type 0} (P : PmdFault → Type 0) (r : Result A TxFault) → IfSome (failed_in r) P
    → IfErr r (λ failed. P failed.fault)
failed_by P (Ok x) by = tt
failed_by P (Err f) by = by

-- Lemmas about calls that follow other calls.

pub acts_none : (blocks : List ℕ) (old : List Call) (v : Sender) → Acts blocks None old v old v
acts_none blocks old v = record { plays = plays_none blocks old v; late = tt; faults = tt }

pub acts_then : {f h : Option PmdFault} {blocks : List ℕ} {a b d : List Call} {v w x : Sender} → Acts blocks f a v b w
    → Acts blocks h b w d x → Acts blocks h a v d x
acts_then {f} {h} {blocks} {a} {b} {d} {v} {w} {x} p q = record {
  plays = plays_both blocks a b d v w x p.plays q.plays;
  late = q.late;
  faults = faults_then h q.faults;
}
  where
    faults_then : (e : Option PmdFault) → IfSome e (λ i. FaultsBy i blocks b w d)
        → IfSome e (λ i. FaultsBy i blocks a v d)
    faults_then None by = tt
    faults_then (Some i) by = by_after i blocks a b d v w p.plays by

pub continues_none : {old : List Call} {v : Sender} → Continues None old v old v
continues_none {old} {v} = record {
  acts = λ blocks. acts_none blocks old v;
  kept = record { accepted = refl; outstanding = refl };
  layout = refl;
}

-- Builds the record `Continues` from the clauses of a public call.
pub continues_of : {f : Option PmdFault} {old new : List Call} {v w : Sender}
    → ((blocks : List ℕ) → PlaysWith blocks old v new w) → IfSome f (λ i. IsLate i)
    → ((blocks : List ℕ) → IfSome f (λ i. FaultsBy i blocks old v new)) → IsNoneAccepted v w → w.layout ≡ v.layout
    → Continues f old v new w
continues_of plays late faults kept layout = record {
  acts = λ blocks. record { plays = plays blocks; late = late; faults = faults blocks };
  kept = kept;
  layout = layout;
}

pub continues_then : {f h : Option PmdFault} {a b d : List Call} {v w x : Sender} → Continues f a v b w
    → Continues h b w d x → Continues h a v d x
continues_then {f} {h} {a} {b} {d} {v} {w} {x} p q = record {
  acts = λ blocks. acts_then (p.acts blocks) (q.acts blocks);
  kept = none_both v w x p.kept q.kept;
  layout = q.layout ∙ p.layout;
}

-- The ring is unchanged except for the progress of its segments.
pub continues_by : {f : Option PmdFault} {old new : List Call} {v w : Sender} (x : Sender)
    → ((blocks : List ℕ) → Acts blocks f old v new w) → w ≡ x → x.accepted ≡ v.accepted → x.outstanding ≡ v.outstanding
    → x.layout ≡ v.layout → Continues f old v new w
continues_by x acts is accepted outstanding layout = record {
  acts = acts;
  kept = record {
    accepted = ap (λ (y : Sender). y.accepted) is ∙ accepted;
    outstanding = ap (λ (y : Sender). y.outstanding) is ∙ outstanding;
  };
  layout = ap (λ (y : Sender). y.layout) is ∙ layout;
}

-- Lemmas about one move of the driver: the reply to the move is healthy or wrong, or the move was refused.
module _ (old new : List Call) (v : Sender) (m : Move) (e : Event Block) (mine : is_elsewhere m ≡ false)
    (own : IsOwn v m e) (free : (blocks : List ℕ) → AcceptsIn blocks m)
  where
    pub acts_done : (r : Reply Block) {w : Sender} → Adds old new e r → w ≡ moved v m r → (blocks : List ℕ)
        → Acts blocks None old v new w
    acts_done r made is blocks = record {
      plays = subst (PlaysWith blocks old v new) (sym is)
          (plays_adds blocks old new v m mine e r own (free blocks) made);
      late = tt;
      faults = tt;
    }

    pub acts_sick : (r : Reply Block) {w : Sender} → Adds old new e r → is_healthy m r ≡ false → moved v m r ≡ v
        → w ≡ v → (blocks : List ℕ) → Acts blocks (Some fault.DeviceFault) old v new w
    acts_sick r made sick same is blocks = record {
      plays = subst (PlaysWith blocks old v new) (same ∙ sym is)
          (plays_adds blocks old new v m mine e r own (free blocks) made);
      late = tt;
      faults = faults_at blocks old new v m e r own (free blocks) made sick;
    }

    pub acts_refused : (f : CallFault (Unit {0})) {w : Sender} → AddsSome old new → w ≡ v → (blocks : List ℕ)
        → Acts blocks (Some (fault.Call f)) old v new w
    acts_refused f some is blocks = record {
      plays = subst (PlaysWith blocks old v new) (sym is) (plays_some blocks old new v some);
      late = tt;
      faults = asks_at blocks old new v m e own mine (free blocks) some;
    }

    -- A move that accepts no packet and reaps none.

    pub continues_done : (r : Reply Block) {w : Sender} → Adds old new e r → w ≡ moved v m r
        → (moved v m r).accepted ≡ v.accepted → (moved v m r).outstanding ≡ v.outstanding
        → (moved v m r).layout ≡ v.layout → Continues None old v new w
    continues_done r made is = continues_by (moved v m r) (acts_done r made is) is

    pub continues_sick : (r : Reply Block) {w : Sender} → Adds old new e r → is_healthy m r ≡ false → moved v m r ≡ v
        → w ≡ v → Continues (Some fault.DeviceFault) old v new w
    continues_sick r made sick same is = continues_by v (acts_sick r made sick same is) is refl refl refl

    pub continues_refused : (f : CallFault (Unit {0})) {w : Sender} → AddsSome old new → w ≡ v
        → Continues (Some (fault.Call f)) old v new w
    continues_refused f some is = continues_by v (acts_refused f some is) is refl refl refl

-- Lemmas about reaping segments.

pub reaped_none : {f : Option PmdFault} {old new : List Call} {v w : Sender} {a : Numbers} → Continues f old v new w
    → w.posted ≡ length w.outstanding → AreOut a (blocks_of v.outstanding) → HasReaped f old v a new w a 0 0
reaped_none {f} {old} {new} {v} {w} {a} p settled out = record {
  acts = p.acts;
  frees = frees_none v w a a p.kept.outstanding refl;
  settled = settled;
  out = rw p.kept.outstanding out;
  accepted = p.kept.accepted;
  layout = p.layout ∙ ap (λ (l : Layout). record v.layout { next = l.next }) (sym p.layout);
}

pub reaped_after : {f h : Option PmdFault} {l m n : List Call} {v w x : Sender} {a b : Numbers} {i j : ℕ}
    → Continues f l v m w → HasReaped h m w a n x b i j → HasReaped h l v a n x b i j
reaped_after {f} {h} {l} {m} {n} {v} {w} {x} {a} {b} {i} {j} p q = record {
  acts = λ blocks. acts_then (p.acts blocks) (q.acts blocks);
  frees = frees_from v w x a b i j p.kept.outstanding q.frees;
  settled = q.settled;
  out = q.out;
  accepted = q.accepted ∙ p.kept.accepted;
  layout = q.layout ∙ ap (λ (y : Layout). record y { next = x.layout.next }) p.layout;
}

pub reaped_one : {old new : List Call} {v w : Sender} {a b : Numbers} (n : ℕ)
    → ((blocks : List ℕ) → Acts blocks None old v new w) → 0 < length v.outstanding → v.posted ≡ length v.outstanding
    → AreOut a (blocks_of v.outstanding) → n ≡ (segment_at v 0).block → w ≡ reaped v → b ≡ with_free a n true
    → HasReaped None old v a new w b 1 (if (segment_at v 0).part.last then 1 else 0)
reaped_one {old} {new} {v} {w} {a} {b} n acts some settled out first is gave = record {
  acts = acts;
  frees = frees_one v w a b n some first is gave;
  settled = rw is (omega (arith, some, settled, length-drop 1 v.outstanding));
  out = out_rest a v n some first out b w is gave;
  accepted = ap (λ (y : Sender). y.accepted) is;
  layout = rw is refl;
}

module _ {f h : Option PmdFault} {l m n : List Call} {v w x : Sender} {a b d : Numbers} {i j : ℕ}
    (p : HasReaped f l v a m w b i j)
  where
    pub reaped_then : {s t : ℕ} → HasReaped h m w b n x d s t → HasReaped h l v a n x d (i + s) (j + t)
    reaped_then {s} {t} q = record {
      acts = λ blocks. acts_then (p.acts blocks) (q.acts blocks);
      frees = frees_both v w x a b d i s j t p.frees q.frees;
      settled = q.settled;
      out = q.out;
      accepted = q.accepted ∙ p.accepted;
      layout = q.layout ∙ ap (λ (y : Layout). record y { next = x.layout.next }) p.layout;
    }

    -- No more segments are reaped.
    pub reaped_still : HasReaped h m w b n x d 0 0 → HasReaped h l v a n x d i j
    reaped_still q =
        subst (λ (k : ℕ). HasReaped h l v a n x d k j) (add-zero i)
        (subst (λ (k : ℕ). HasReaped h l v a n x d (i + 0) k) (add-zero j) (reaped_then q))

-- Lemmas about queueing a packet.

module _ {p : Packet} {l m n : List Call} {v w x : Sender} {a b : Numbers} where
  pub queues_then : {f : Option PmdFault} {r : Result TxAnswer TxFault} → Continues f l v m w → w.posted ≡ v.posted
      → Queues r p m w a n x b → Queues r p l v a n x b
  queues_then {f} {r} c tail q =
      let blocks = (outgoing_of p).blocks in
      let first = (c.acts blocks).plays in
      record {
        plays = plays_both blocks l m n v w x first q.plays;
        tried = q.tried;
        accepted = accepted_after (returned r) v w x p c.kept q.accepted;
        kept = kept_after (returned r) v w x c.kept q.kept;
        freed = q.freed;
        back = q.back;
        asked = q.asked;
        tail = q.tail ∙ tail;
        faults = after_all (λ (e : TxFault). e.fault) r blocks l m n v w first q.faults;
        layout = q.layout ∙ c.layout;
      }

  -- The packet was accepted, and then the driver tried to do the packet's remaining work.
  pub queues_taken : Acts (outgoing_of p).blocks None l v m w → w ≡ accepted_by v (outgoing_of p)
      → b ≡ with_all_free a (drop (parts_for p.len) (numbers_of p.bufs)) → Continues None m w n x
      → x.posted ≡ w.posted → x.poked ≡ length x.outstanding → Queues (Ok Taken) p l v a n x b
  queues_taken first is freed c tail asked =
      let blocks = (outgoing_of p).blocks in
      record {
        plays = plays_both blocks l m n v w x first.plays (c.acts blocks).plays;
        tried = tt;
        accepted = accepted_then v w x p is c.kept;
        kept = tt;
        freed = freed;
        back = tt;
        asked = λ taken. asked;
        tail = tail ∙ ap (λ (y : Sender). y.posted) is;
        faults = tt;
        layout = c.layout ∙ ap (λ (y : Sender). y.layout) is;
      }

  pub queues_waits : (f : PmdFault) → Acts (outgoing_of p).blocks None l v m w → w ≡ accepted_by v (outgoing_of p)
      → b ≡ with_all_free a (drop (parts_for p.len) (numbers_of p.bufs)) → Continues (Some f) m w n x
      → x.posted ≡ w.posted → Queues (Err (record { fault = f; packet = None })) p l v a n x b
  queues_waits f first is freed c tail =
      let blocks = (outgoing_of p).blocks in
      let both = acts_then first (c.acts blocks) in
      record {
        plays = both.plays;
        tried = both.late;
        accepted = accepted_then v w x p is c.kept;
        kept = tt;
        freed = freed;
        back = tt;
        asked = λ taken. cc;
        tail = tail ∙ ap (λ (y : Sender). y.posted) is;
        faults = both.faults;
        layout = c.layout ∙ ap (λ (y : Sender). y.layout) is;
      }

-- The packet is returned.
pub queues_back : {p : Packet} {l m : List Call} {v w : Sender} {a : Numbers} (f : PmdFault) (back : Packet)
    → Acts (outgoing_of p).blocks (Some f) l v m w → IsNoneAccepted v w → w.posted ≡ v.posted → w.layout ≡ v.layout
    → IsBack f p back → Queues (Err (record { fault = f; packet = Some back })) p l v a m w a
queues_back f back acts kept tail layout is = record {
  plays = acts.plays;
  tried = acts.late;
  accepted = tt;
  kept = kept;
  freed = refl;
  back = is;
  asked = λ taken. cc;
  tail = tail;
  faults = acts.faults;
  layout = layout;
}
