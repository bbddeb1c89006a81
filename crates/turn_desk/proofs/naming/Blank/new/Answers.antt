use Rattle.turn_desk.proofs.Agreement.{first_agrees}
use Rattle.turn_desk.proofs.naming.Blank.new.Goals as goal

pub of_words-requires : goal.of_words-requires
of_words-requires c = first_agrees
