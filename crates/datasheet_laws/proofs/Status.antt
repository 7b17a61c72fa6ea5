-- What STATUS and LINKS read.
use Rattle.std.proofs.Common.{◌≡◌, ℕ, ◌<◌, ◌^◌, Bool, true, false, cond, if◌then◌else◌, refl, ap, sym, ◌∙◌, lit<}
use Rattle.std.specs.Prelude.{bit_and}
use Rattle.std.specs.Bool.{beq}
use Rattle.nic_device.specs.RegTable.declared.rows.RowId.TheVariants.{Status, Links}
use Rattle.nic_device.specs.Interrupt.{device_raised, link_cause}
use Rattle.nic_device.specs.declared.event.Event.TheVariants as event
use Rattle.datasheet_laws.specs.Prelude.{Done, Idle, State, Word, after, gives, is_stopped, place, step_of}
use Rattle.datasheet_laws.proofs.Prelude.{first_address}
use Rattle.datasheet_laws.specs.Status.{StatusTellsOfSteps, LinksTellsTheLink, LinksTellsTheLinkSet, status_address}
use Rattle.datasheet_laws.specs.Status.{links_address, links_word}
use Rattle.datasheet_laws.proofs.Addresses.{address_of}
use Rattle.datasheet_laws.proofs.Reading.{whole_word}
use Rattle.datasheet_laws.proofs.SettingsShown.{stops}
use Rattle.datasheet_laws.proofs.Words.{reply-read}

either : (b : Bool) (x y : ℕ) → x < 2 ^ 32 → y < 2 ^ 32 → cond b x y < 2 ^ 32
either true x y h k = h
either false x y h k = k

pub status : StatusTellsOfSteps
status s =
    let at = address_of (place Status 0) status_address (first_address (place Status 0) (lit< tt)) in
    let word : ℕ = if is_stopped s.registers then 0 else 0x00080000 in
    reply-read s status_address (place Status 0) at.named
    ∙ ap (λ v. Word (bit_and word v)) at.view
    ∙ ap Word (whole_word word (either (is_stopped s.registers) 0 0x00080000 (lit< tt) (lit< tt)))
    ∙ ap (λ b. Word (if b then 0 else 0x00080000)) (sym (stops s))

pub links : LinksTellsTheLink
links s =
    let at = address_of (place Links 0) links_address (first_address (place Links 0) (lit< tt)) in
    reply-read s links_address (place Links 0) at.named
    ∙ ap (λ v. Word (bit_and (links_word s.link) v)) at.view
    ∙ ap Word (whole_word (links_word s.link) (either s.link 0x70000000 0 (lit< tt) (lit< tt)))

settles : (now up : Bool) (old new : State) → old.link ≡ now → new.link ≡ up
    → (cond (beq now up) (gives Idle old) (gives Done new)).state.link ≡ up
settles true true old new is later = is
settles true false old new is later = later
settles false true old new is later = later
settles false false old new is later = is

link_after : (s : State) (up : Bool) → (after s (event.Link up)).link ≡ up
unfolding step_of
link_after s up =
    settles s.link up s (record s { link = up; registers = device_raised s.registers link_cause }) refl refl

pub links_set : LinksTellsTheLinkSet
links_set s up = links (after s (event.Link up)) ∙ ap (λ b. Word (links_word b)) (link_after s up)
