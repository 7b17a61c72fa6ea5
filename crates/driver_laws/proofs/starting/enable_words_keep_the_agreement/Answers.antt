pub returns : Rattle.driver_laws.proofs.starting.enable_words_keep_the_agreement.Goals.returns
returns c = Rattle.driver_laws.proofs.Meeting.enable_words_keep
