use Rattle.std.proofs.Common.{◌≡◌, ◌∙◌, ◌+◌, ◌-◌, ◌*◌, ◌/◌, ℕ, List, length, take, drop, min, get_or, sym, ap, arith}
use Rattle.std.proofs.lemmas.List.{length-drop, take_all, take_min}
use Rattle.pmd_access.specs.Packet.{Kept}
use Rattle.pmd_tx.specs.Sending.{parts_for}
use Rattle.pmd_tx.proofs.Newest.{newest-last, newest-count, newest-some}
use Rattle.pmd_tx.proofs.ring.newest_part.Goals as goal

pub overflow_sub-start : goal.overflow_sub-start
overflow_sub-start c =
    let ks = c.args.accepted.now in
    let d = c.index-accepted-accepted.result in
    let few = c.requires.few in
    let left = c.requires.some in
    let some = newest-some ks (omega (arith, few, left)) in
    let is : c.bytes-bytes.result.now ≡ (get_or ks (length ks - 1) d).bytes =
    c.bytes-bytes.ensures ∙ ap (λ (k : Kept). k.bytes) c.index-accepted-accepted.is in
    let count = newest-count ks d some in
    rw is (omega (arith, few, count))

pub returns : goal.returns
returns c =
    let ks = c.args.accepted.now in
    let d = c.index-accepted-accepted.result in
    let few = c.requires.few in
    let left = c.requires.some in
    let some = newest-some ks (omega (arith, few, left)) in
    let is : c.bytes-bytes.result.now ≡ (get_or ks (length ks - 1) d).bytes =
    c.bytes-bytes.ensures ∙ ap (λ (k : Kept). k.bytes) c.index-accepted-accepted.is in
    let bytes = c.bytes-bytes.result.now in
    let start = 2048 * ((length bytes + 2047) / 2048 - c.args.left) in
    let rest = drop start bytes in
    let all : take (length bytes - start) rest ≡ rest =
    take_all (length bytes - start) rest (omega (arith, length-drop start bytes)) in
    let swap : min (length rest) 2048 ≡ min 2048 (length rest) = omega arith in
    ap (λ (k : ℕ). take k (take (length bytes - start) rest)) c.min.ensures
    ∙ ap (λ (l : List ℕ). take (min (length l) 2048) l) all
    ∙ ap (λ (k : ℕ). take k rest) swap ∙ take_min 2048 rest
    ∙ ap (λ (l : List ℕ). take 2048 (drop (2048 * (parts_for (length l) - c.args.left)) l)) is
    ∙ sym (newest-last ks c.args.left d some)
