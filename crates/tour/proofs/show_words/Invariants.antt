use Rattle.narration.specs.Tokens.{bytes_left}
use Rattle.tour.proofs.show_words.Given as goal

abbrev pub decreases-loop-token : goal.decreases-loop-token
decreases-loop-token l = bytes_left l.token-iterator
