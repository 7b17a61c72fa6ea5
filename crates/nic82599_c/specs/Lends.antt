-- A borrow of a handle's value, which returns to the handle when the borrow ends.
use base.Fml.{Fml}
use denote.RattleType.{RattleType}
use denote.Ref.{MutBor}
use denote.Follow.{follows}

-- When the borrow r ends, the handle that follows h, of type H, contains the value that was last written through r.
abbrev pub lends :
    (H R : RattleType) → (H.Denot → R.Denot → H.Denot) → MutBor H.Denot → MutBor R.Denot → Fml
lends H R with_value h r = follows H R h.ghost_name r.ghost_name (with_value h.now)
