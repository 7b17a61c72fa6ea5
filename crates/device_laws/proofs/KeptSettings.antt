-- Events that write no setting leave the frame limit and the pool mode unchanged.
use Rattle.std.proofs.Common.{◌≡◌, ℕ, refl, ap, subst}
use Rattle.device_laws.specs.Prelude.{Block, Event, GcrExt, Hlreg0, Maxfrs, Place, Port, Register, State, mode_of}
use Rattle.device_laws.specs.Prelude.{named}
use Rattle.device_laws.specs.Laws.{IsOfNoSetting, WritesNoSetting, OtherEventsKeepSettings}
use Rattle.nic_device.specs.declared.event.Event.TheVariants as event
use Rattle.device_laws.proofs.Settings.{setting_stands}

no_setting : (s : State) (e : Event Block) → WritesNoSetting s e → (port : Port) (n word : ℕ) (p : Place) (view : ℕ)
    → e ≡ event.Write port n word → named s port n ≡ Register p view → IsOfNoSetting p
no_setting s e none port n word p view is found = subst (WritesNoSetting s) is none p view found

pub settings_stand : OtherEventsKeepSettings
settings_stand s e none =
    let other = no_setting s e none in
    let jumbo = setting_stands Hlreg0 (record { bank = refl; alone = refl; still = λ bit. refl; unread = λ e. cc }) s e
    (λ port n word p view is found.
    let o = other port n word p view is found in record { control = o.control; other = o.jumbo }) in
    let limit = setting_stands Maxfrs (record { bank = refl; alone = refl; still = λ bit. refl; unread = λ e. cc }) s e
    (λ port n word p view is found.
    let o = other port n word p view is found in record { control = o.control; other = o.limit }) in
    let mode = setting_stands GcrExt (record { bank = refl; alone = refl; still = λ bit. refl; unread = λ e. cc }) s e
    (λ port n word p view is found.
    let o = other port n word p view is found in record { control = o.control; other = o.mode }) in
    record { limit = rw (jumbo, limit) refl; mode = ap mode_of mode }
