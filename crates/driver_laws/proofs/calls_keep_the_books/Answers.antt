-- Lemmas about which blocks of an arena a driver has, over its calls.
use Rattle.driver_laws.proofs.Prelude.{[], ap, append-nil, append_assoc, arith, halted_of, sym, times-append}
use Rattle.driver_laws.proofs.Prelude.{times_in_hand, List, ℕ, ◌++◌}
use Rattle.pmd_driver.proofs.Whole.{keeps_beside, keeps_counted, keeps_then}
use Rattle.pmd_driver.specs.Halted.{all_out}

pub returns : Rattle.driver_laws.proofs.calls_keep_the_books.Goals.returns
returns c = record {
  start = λ a outside h once has. record {
    once = once;
    all =
        keeps_counted a h.arena outside ((all_out h ++ []) ++ outside) (all_out h ++ outside)
        (λ n. ap (λ (l : List ℕ). times_in_hand (l ++ outside) n) (sym (append-nil (all_out h))))
        (keeps_beside a h.arena [] (all_out h ++ []) outside has);
  };
  call = λ a outside old new given back rest keeps has.
      let h = halted_of old in
      let k = halted_of new in
      record {
        once = has.once;
        all =
            keeps_then a h.arena k.arena outside (all_out h ++ (given ++ rest)) (all_out k ++ (back ++ rest)) has.all
            (rw (← append_assoc (all_out h) given rest, ← append_assoc (all_out k) back rest)
            (keeps_beside h.arena k.arena (all_out h ++ given) (all_out k ++ back) rest keeps));
      };
  order = λ a outside h hand other same has. record {
    once = has.once;
    all = keeps_counted a h.arena outside (all_out h ++ hand) _ (λ n. omega (arith, same n, times-append)) has.all;
  };
}
