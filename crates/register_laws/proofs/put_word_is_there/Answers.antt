use Rattle.register_laws.proofs.Owners.{is_place-itself}
use Rattle.register_laws.proofs.Shape.{put_stands}
use Rattle.register_laws.proofs.WithinParts.{within-put}
use Rattle.register_laws.specs.Footprint.{the_word}
use Rattle.register_laws.proofs.put_word_is_there.Goals as goal

pub returns-clause-there : goal.returns-clause-there
returns-clause-there c = λ r h p b word. put_stands r p word h b

pub returns-clause-alone : goal.returns-clause-alone
returns-clause-alone c = λ r p word. within-put (the_word p) r p word (λ bit. is_place-itself p)
