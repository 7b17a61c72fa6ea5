use Rattle.driver_laws.proofs.Prelude.{[], append_assoc, around, ◌++◌, ◌∙◌, ◌∷◌}

pub returns : Rattle.driver_laws.proofs.calls_end_at_an_entry.Goals.returns
returns ctx pass h calls more c is =
    let x = around pass h calls c more (is ∙ append_assoc calls (c ∷ []) more) in
    record {
      before = x.before;
      entry = x.entry;
      following = x.following;
      all = x.all;
      made = λ i. x.made i ++ x.call i ∷ [];
    }
