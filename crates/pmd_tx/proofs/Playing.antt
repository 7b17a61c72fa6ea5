-- Lemmas about how a call extends the driver's calls.
use Rattle.std.proofs.Common.{◌≡◌, ℕ, suc, false, List, [], ◌∷◌, ◌++◌, length, map, refl, sym, ap, ◌∙◌, subst, append_assoc}
use Rattle.std.proofs.lemmas.List.{append-nil}
use Rattle.pmd_access.specs.NicDevice.DmaArena.Block.{Block}
use Rattle.pmd_access.specs.NicDevice.declared.event.Event.{Event}
use Rattle.pmd_access.specs.NicDevice.declared.event.Reply.{Reply}
use Rattle.pmd_access.specs.DeviceLock.declared.entry.Call.{Call}
use Rattle.pmd_access.specs.DeviceLock.Pass.{call_of}
use Rattle.pmd_access.specs.Made.{Adds, AddsSome}
use Rattle.pmd_access.proofs.Steps.{steps_marked, steps_last, steps_both}
use Rattle.pmd_tx.specs.Plays.{Plays, PlaysWith, AcceptsIn, AllAcceptIn, AllOwn, is_elsewhere, played_by, AsksNext, Faults}
use Rattle.pmd_tx.specs.Sending.{Sender, Move, Elsewhere, IsOwn, moved, is_healthy}

abbrev pub elsewhere : List Call → List Move
elsewhere calls = map (λ (n : Call). Elsewhere) calls

own-elsewhere : (v : Sender) (calls : List Call) → AllOwn v (elsewhere calls) calls
own-elsewhere v [] = tt
own-elsewhere v (n ∷ calls) = (tt, own-elsewhere v calls)

played-elsewhere : (v : Sender) (calls : List Call) → played_by v (elsewhere calls) calls ≡ v
played-elsewhere v [] = refl
played-elsewhere v (n ∷ calls) = played-elsewhere v calls

own-last : (v : Sender) (before : List Call) (m : Move) (e : Event Block) (r : Reply Block) → IsOwn v m e
    → AllOwn v (elsewhere before ++ m ∷ []) (before ++ call_of e r ∷ [])
own-last v [] m e r own = (own, tt)
own-last v (n ∷ before) m e r own = (tt, own-last v before m e r own)

played-last : (v : Sender) (before : List Call) (m : Move) (e : Event Block) (r : Reply Block)
    → played_by v (elsewhere before ++ m ∷ []) (before ++ call_of e r ∷ []) ≡ moved v m r
played-last v [] m e r = refl
played-last v (n ∷ before) m e r = played-last v before m e r

accepts-elsewhere : (blocks : List ℕ) (calls : List Call) → AllAcceptIn blocks (elsewhere calls)
accepts-elsewhere blocks [] = tt
accepts-elsewhere blocks (n ∷ calls) = (tt, accepts-elsewhere blocks calls)

accepts-last : (blocks : List ℕ) (before : List Call) (m : Move) → AcceptsIn blocks m
    → AllAcceptIn blocks (elsewhere before ++ m ∷ [])
accepts-last blocks [] m accepts = (accepts, tt)
accepts-last blocks (n ∷ before) m accepts = (tt, accepts-last blocks before m accepts)

-- The driver's own event follows calls that aren't its own.
pub plays_adds : (blocks : List ℕ) (old new : List Call) (v : Sender) (m : Move) → is_elsewhere m ≡ false
    → (e : Event Block) (r : Reply Block) → IsOwn v m e → AcceptsIn blocks m → Adds old new e r
    → PlaysWith blocks old v new (moved v m r)
plays_adds blocks old new v m mine e r own accepts (before, is, steps) = record {
  plays = (
    elsewhere before ++ m ∷ [],
    before ++ call_of e r ∷ [],
    is,
    own-last v before m e r own,
    sym (played-last v before m e r),
    steps_last is_elsewhere Elsewhere m before (call_of e r) mine steps,
  );
  accepts = accepts-last blocks before m accepts;
}

pub plays_some : (blocks : List ℕ) (old new : List Call) (v : Sender) → AddsSome old new → PlaysWith blocks old v new v
plays_some blocks old new v (before, is, steps) = record {
  plays = (
    elsewhere before,
    before,
    is,
    own-elsewhere v before,
    sym (played-elsewhere v before),
    steps_marked is_elsewhere Elsewhere before steps,
  );
  accepts = accepts-elsewhere blocks before;
}

-- If no call was made, the driver's state is unchanged.
pub plays_none : (blocks : List ℕ) (old : List Call) (v : Sender) → PlaysWith blocks old v old v
plays_none blocks old v = plays_some blocks old old v ([], sym (append-nil old), tt)

-- Lemmas about one sequence of calls followed by another.

own-both : (v : Sender) (m : List Move) (s : List Call) (n : List Move) (t : List Call) → AllOwn v m s
    → AllOwn (played_by v m s) n t → AllOwn v (m ++ n) (s ++ t)
own-both v [] [] n t a b = b
own-both v [] (x ∷ s) n t a b = absurd a
own-both v (k ∷ m) [] n t a b = absurd a
own-both v (k ∷ m) (x ∷ s) n t (own, a) b = (own, own-both (moved v k x.reply) m s n t a b)

played-both : (v : Sender) (m : List Move) (s : List Call) (n : List Move) (t : List Call) → AllOwn v m s
    → played_by v (m ++ n) (s ++ t) ≡ played_by (played_by v m s) n t
played-both v [] [] n t a = refl
played-both v [] (x ∷ s) n t a = absurd a
played-both v (k ∷ m) [] n t a = absurd a
played-both v (k ∷ m) (x ∷ s) n t (own, a) = played-both (moved v k x.reply) m s n t a

own-length : (v : Sender) (m : List Move) (s : List Call) → AllOwn v m s → length m ≡ length s
own-length v [] [] own = refl
own-length v [] (x ∷ s) own = absurd own
own-length v (k ∷ m) [] own = absurd own
own-length v (k ∷ m) (x ∷ s) own = ap suc (own-length (moved v k x.reply) m s own.1)

pub all_both : (a b d : List Call) (v w x : Sender) → Plays a v b w → Plays b w d x → Plays a v d x
all_both a b d v w x (m, s, is, own, by, steps) (n, t, then, also, on, more) = (
  m ++ n,
  s ++ t,
  then ∙ ap (λ (l : List Call). l ++ t) is ∙ append_assoc a s t,
  own-both v m s n t own (subst (λ (y : Sender). AllOwn y n t) by also),
  on ∙ ap (λ (y : Sender). played_by y n t) by ∙ sym (played-both v m s n t own),
  steps_both is_elsewhere m n s t (own-length v m s own) steps more,
)

accepts-both : (blocks : List ℕ) (m n : List Move)
    → AllAcceptIn blocks m → AllAcceptIn blocks n → AllAcceptIn blocks (m ++ n)
accepts-both blocks [] n a b = b
accepts-both blocks (k ∷ m) n a b = (a.0, accepts-both blocks m n a.1 b)

pub plays_both : (blocks : List ℕ) (a b d : List Call) (v w x : Sender) → PlaysWith blocks a v b w
    → PlaysWith blocks b w d x → PlaysWith blocks a v d x
unfolding all_both
plays_both blocks a b d v w x p q = record {
  plays = all_both a b d v w x p.plays q.plays;
  accepts = accepts-both blocks p.plays.0 q.plays.0 p.accepts q.accepts;
}

-- A call whose reply a healthy queue never sends is a fault of the queue.
pub faults_at : (blocks : List ℕ) (old new : List Call) (v : Sender) (m : Move) (e : Event Block) (r : Reply Block)
    → IsOwn v m e → AcceptsIn blocks m → Adds old new e r → is_healthy m r ≡ false → Faults blocks old v new
faults_at blocks old new v m e r own accepts adds sick = record {
  mid = old;
  before = v;
  move = m;
  event = e;
  reply = r;
  plays = plays_none blocks old v;
  own = own;
  accepts = accepts;
  adds = adds;
  sick = sick;
}

-- A wrong reply that comes after other calls is a fault after all these calls.
pub faults_after : (blocks : List ℕ) (a b d : List Call) (v w : Sender) → PlaysWith blocks a v b w → Faults blocks b w d
    → Faults blocks a v d
faults_after blocks a b d v w plays f = record {
  mid = f.mid;
  before = f.before;
  move = f.move;
  event = f.event;
  reply = f.reply;
  plays = plays_both blocks a b f.mid v w f.before plays f.plays;
  own = f.own;
  accepts = f.accepts;
  adds = f.adds;
  sick = f.sick;
}

-- If a call is refused, its event is a move that the driver may make next.
pub asks_at : (blocks : List ℕ) (old new : List Call) (v : Sender) (m : Move) (e : Event Block) → IsOwn v m e
    → is_elsewhere m ≡ false → AcceptsIn blocks m → AddsSome old new → AsksNext blocks old v new
asks_at blocks old new v m e own mine accepts some = record {
  before = v;
  move = m;
  event = e;
  plays = plays_some blocks old new v some;
  own = own;
  mine = mine;
  accepts = accepts;
}

pub asks_after : (blocks : List ℕ) (a b d : List Call) (v w : Sender) → PlaysWith blocks a v b w → AsksNext blocks b w d
    → AsksNext blocks a v d
asks_after blocks a b d v w plays f = record {
  before = f.before;
  move = f.move;
  event = f.event;
  plays = plays_both blocks a b d v w f.before plays f.plays;
  own = f.own;
  mine = f.mine;
  accepts = f.accepts;
}
