-- What arriving frames, interrupt steps, EEPROM steps, link changes and collected frames leave unchanged.
use Rattle.std.proofs.Common.{◌≡◌, false, refl}
use Rattle.nic_device.specs.IntrUnit.declared.group.Group.TheVariants as group
use Rattle.nic_device.specs.RegisterFile.declared.owner.Owner.TheVariants as owner
use Rattle.nic_device.proofs.RegisterLaws.Footprints.{misses-owner, misses-narrower, covers-the_word}
use Rattle.device_laws.specs.Prelude.{Eerd, Misses, Owner, counters, is_owner, of_owner, pending, place, the_word}
use Rattle.device_laws.proofs.Prelude.{misses-nothing}
use Rattle.device_laws.specs.Leaving.{ArrivalLeavesTheRest, MessageLeavesTheRest, EepromStepLeavesTheRest, LinkLeavesTheRest, CollectingLeavesTheRest}
use Rattle.device_laws.proofs.Missed.{misses-either, misses-other_group, pending-misses_side}
use Rattle.device_laws.proofs.Standing.{stays_within, missed, same_memory, queues_stand}
use Rattle.nic_device.specs.declared.event.Event.TheVariants as event

pub arrival_rest : ArrivalLeavesTheRest
arrival_rest s frame =
    let stays = stays_within s (event.Arrive frame) in
    let misses = λ (o : Owner) (first : Misses counters (of_owner o)) (then : Misses (pending group.Pf) (of_owner o)).
    misses-either counters (pending group.Pf) (of_owner o) first then in
    record {
      queues = queues_stand _ s _ stays
          (λ dir queue. misses (owner.Side dir queue) (misses-owner owner.Counters (owner.Side dir queue) refl)
          (pending-misses_side group.Pf dir queue)) (λ queue. refl);
      groups = λ g other. (missed _ s _ stays).group g
          (misses (owner.Group g) (misses-owner owner.Counters (owner.Group g) refl)
          (misses-other_group group.Pf g other));
      memory = same_memory s.memory _ (λ number. stays.blocks number refl);
      out = stays.out refl;
    }

pub message_rest : MessageLeavesTheRest
message_rest s g =
    let stays = stays_within s (event.IntStep g) in
    record {
      queues = queues_stand _ s _ stays (pending-misses_side g) (λ queue. refl);
      groups = λ other n. (missed _ s _ stays).group other (misses-other_group g other n);
      memory = same_memory s.memory _ (λ number. stays.blocks number refl);
      frames = record { waiting = stays.waiting refl; out = stays.out refl };
    }

-- EERD belongs to no side and no group.
misses_eerd : (o : Owner) → is_owner owner.Device o ≡ false → Misses (the_word (place Eerd 0)) (of_owner o)
misses_eerd o other =
    misses-narrower (of_owner owner.Device) (the_word (place Eerd 0)) (of_owner o) (covers-the_word (place Eerd 0))
    (misses-owner owner.Device o other)

pub eeprom_rest : EepromStepLeavesTheRest
eeprom_rest s =
    let stays = stays_within s event.EepromStep in
    record {
      queues = queues_stand _ s _ stays (λ dir queue. misses_eerd (owner.Side dir queue) refl) (λ queue. refl);
      groups = λ g. (missed _ s _ stays).group g (misses_eerd (owner.Group g) refl);
      memory = same_memory s.memory _ (λ number. stays.blocks number refl);
      frames = record { waiting = stays.waiting refl; out = stays.out refl };
    }

pub link_rest : LinkLeavesTheRest
link_rest s up =
    let stays = stays_within s (event.Link up) in
    record {
      queues = queues_stand _ s _ stays (pending-misses_side group.Pf) (λ queue. refl);
      groups = λ other n. (missed _ s _ stays).group other (misses-other_group group.Pf other n);
      memory = same_memory s.memory _ (λ number. stays.blocks number refl);
      frames = record { waiting = stays.waiting refl; out = stays.out refl };
    }

pub collecting_rest : CollectingLeavesTheRest
collecting_rest s =
    let stays = stays_within s event.Collect in
    record {
      queues = queues_stand _ s _ stays (λ dir queue. misses-nothing _) (λ queue. refl);
      groups = λ g. (missed _ s _ stays).group g (misses-nothing _);
      memory = same_memory s.memory _ (λ number. stays.blocks number refl);
      waiting = stays.waiting refl;
    }
