use Rattle.register_laws.proofs.Sound.{sound-after_read, sound-written, sound-counted, sound-counted_wrapping, sound-answered, sound-causes_raised, sound-queue_raised, sound-message_made, sound-with_head, sound-switched, sound-shut}
use Rattle.register_laws.proofs.SoundReset.{sound-reset}
use Rattle.register_laws.proofs.soundness_is_kept.Goals as goal

pub returns-clause-reset : goal.returns-clause-reset
returns-clause-reset c = sound-reset

pub returns-clause-read : goal.returns-clause-read
returns-clause-read c = λ r sound p. sound-after_read r p sound

pub returns-clause-write : goal.returns-clause-write
returns-clause-write c = λ r sound p view word. sound-written r p view word sound

pub returns-clause-count : goal.returns-clause-count
returns-clause-count c = λ r sound row index e. sound-counted r row index e sound

pub returns-clause-count_wrapping : goal.returns-clause-count_wrapping
returns-clause-count_wrapping c = λ r sound row index e. sound-counted_wrapping r row index e sound

pub returns-clause-answer : goal.returns-clause-answer
returns-clause-answer c = λ r sound word small. sound-answered r word small sound

pub returns-clause-raise : goal.returns-clause-raise
returns-clause-raise c = λ r sound g bits. sound-causes_raised r g bits sound

pub returns-clause-queue_raise : goal.returns-clause-queue_raise
returns-clause-queue_raise c = λ r sound g dir queue. sound-queue_raised r g dir queue sound

pub returns-clause-message : goal.returns-clause-message
returns-clause-message c = λ r sound g. sound-message_made r g sound

pub returns-clause-head : goal.returns-clause-head
returns-clause-head c = λ r sound dir queue head small. sound-with_head r dir queue head sound small

pub returns-clause-switch : goal.returns-clause-switch
returns-clause-switch c = λ r sound dir queue. sound-switched r dir queue sound

pub returns-clause-shut : goal.returns-clause-shut
returns-clause-shut c = λ r sound dir queue. sound-shut r dir queue sound
