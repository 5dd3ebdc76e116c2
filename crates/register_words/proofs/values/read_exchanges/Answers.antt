use Rattle.register_words.proofs.values.read_exchanges.Goals as goal

pub returns : goal.returns
returns c = c.read_number_between.ensures
