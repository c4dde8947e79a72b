use Rattle.text.proofs.Cuts.{cut_words}
use Rattle.text.proofs.Takes.{gives_each, gives_places}
use Rattle.text.proofs.pieces.Pieces.words.Goals as goal

pub returns-clause-cut : goal.returns-clause-cut
returns-clause-cut c = cut_words c.args.text.now

pub returns-clause-each : goal.returns-clause-each
returns-clause-each c = gives_each

pub returns-clause-places : goal.returns-clause-places
returns-clause-places c = gives_places
