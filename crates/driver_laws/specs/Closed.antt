-- The passes that close a history, and which part of the history contains the calls that one of these passes had made.
use Rattle.std.specs.Prelude.{[], ◌++◌, ◌∷◌, ◌≡◌, Contains, List, ℕ}
use Rattle.driver_laws.specs.StartPrelude.{Call, Entry, calls_of}
use Rattle.pmd_driver.specs.DeviceLock.{Closing.Closes, Pass.PassValue}

-- The list contains this pass, perhaps in a later state: with the calls that it had made, and perhaps more after them.
pub record IsAmong (ps : List PassValue) (pass : PassValue) : Type 0 where
  pub later : PassValue
  pub among : Contains ps later
  pub tag : later.tag ≡ pass.tag
  pub more : List Call
  pub calls : later.calls ≡ pass.calls ++ more

-- The entries of a history up to a point where a pass had made exactly these calls.
pub record UpTo (tag : ℕ) (h : List Entry) (calls : List Call) : Type 0 where
  pub done : List Entry
  pub rest : List Entry
  pub all : done ++ rest ≡ h
  pub made : calls_of tag done ≡ calls

-- If there are any entries, the last of them is the pass's own.
abbrev pub EndOwn : ℕ → List Entry → Type 0
EndOwn tag done = (before : List Entry) (e : Entry) → before ++ e ∷ [] ≡ done → e.pass ≡ tag

-- Suppose that passes close a history, and take the calls that one of these passes had made at some time. The history
-- has an initial part in which the pass made exactly these calls. Unless the part is empty, it ends with the pass's own
-- entry.
abbrev pub CallsStand : Type 0
CallsStand =
    (bench count : ℕ) (h : List Entry) (ps : List PassValue) (pass : PassValue) → Closes bench count h ps →
    IsAmong ps pass → (u : UpTo pass.tag h pass.calls) × EndOwn pass.tag u.done
