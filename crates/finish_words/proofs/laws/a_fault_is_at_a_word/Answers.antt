use Rattle.finish_words.proofs.Faults.{fault_of}
use Rattle.finish_words.proofs.laws.a_fault_is_at_a_word.Goals as goal

pub returns : goal.returns
returns c = fault_of
