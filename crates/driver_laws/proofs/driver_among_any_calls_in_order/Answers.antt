use Rattle.driver_laws.proofs.Beside.{called_after, goes_on, is_life, marked_same, own_again, own_life, rings_up, reported}
use Rattle.driver_laws.proofs.Prelude.{common_steps, now, same_delivers, same_sends, subst, sym, ◌∙◌}
use Rattle.driver_laws.proofs.Reported.{goes, none_before, none_first, up_next, waiting_first}
use Rattle.driver_laws.proofs.{Order.handed, Order.idle, Order.ran, Order.sent_first, Prelude.HasNoneOut, Prelude.arith}
use Rattle.driver_laws.specs.StartPrelude.{entries_in, marked_entries}

pub returns : Rattle.driver_laws.proofs.driver_among_any_calls_in_order.Goals.returns
returns c = record {
  reported = λ q size frame old a m later ahead own x. own_again x;
  lived = λ x. ((goes (reported x)).rings, rings_up x, is_life x);
  handed = λ x l. rw (rings_up x, same_delivers x.w.queue x.origin _ _ x.retagged.was.same)
      (handed (ran (own_life x)) l);
  none = λ x n y looked early same.
      let (s, up, looks) = up_next _ (now x).driver.rings n.driver.rings (goes (reported x)).rings (rings_up x) looked
      in
      rw (rings_up x, same_delivers x.w.queue x.origin early y.look.before same)
      (none_before (own_life x) y.look (called_after x n y) looks);
  first = λ x n y looked before more early all is same.
      let (s, up, looks) = up_next _ (now x).driver.rings n.driver.rings (goes (reported x)).rings (rings_up x) looked
      in
      rw (rings_up x, same_delivers x.w.queue x.origin early before same)
      (none_first (own_life x) y.look (called_after x n y) looks before more all is);
  sent = λ x l. rw (rings_up x, same_sends x.w.queue x.origin _ _ x.retagged.was.same)
      (sent_first (ran (own_life x)) l);
  idle = λ x is none.
      rw (rings_up x, same_sends x.w.queue x.origin x.h x.g x.retagged.was.same)
      (idle (ran (own_life x)) is (subst HasNoneOut (rings_up x) none));
  waits = λ x n y waits before more early all is same sent.
      let (s, up, looks) = up_next _ (now x).driver.rings n.driver.rings (goes (reported x)).rings (rings_up x) waits in
      waiting_first (own_life x) y.look (called_after x n y) looks before more all is
      (grind (arith, common_steps, rings_up, same_sends));
  in_hand = λ origin before reported d own each was began.
      goes_on was (entries_in d.calls) d.calls own d.device began (marked_same d.calls own each);
  interleaved = λ origin before reported i own each all was began.
      goes_on was (marked_entries i.calls i.own) i.calls own i.device began
      (sym (marked_same i.calls i.own all) ∙ marked_same i.calls own each);
}
