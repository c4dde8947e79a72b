use Rattle.semantics.proofs.Satisfying.{free_letters_decide, judged_anywhere, one_judgement}
use Rattle.semantics.proofs.laws.laws_of_satisfaction.Goals as goal

pub returns : goal.returns
returns c = record { letters = free_letters_decide; anywhere = judged_anywhere; one = one_judgement }
