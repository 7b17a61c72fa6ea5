-- A hash key, with the tables that computing a hash uses.
use Rattle.rss_hash.specs.Tables.{AreItsWindows}
use Rattle.rss_hash.specs.declared.hash_key.HashKey.TheInside.{Inside}

-- The tables contain the windows of the key that the key's words contain.
pub record HasItsTables (key : Inside) : Type 0 where
  pub windows : AreItsWindows key.tables key.words
