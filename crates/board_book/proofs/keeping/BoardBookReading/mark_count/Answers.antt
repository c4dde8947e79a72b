use Rattle.book.specs.Meaning.{marks_of}
use Rattle.board_book.proofs.keeping.BoardBookReading.mark_count.Goals as goal

pub returns : goal.returns
unfolding marks_of
returns c = c.mark_count.ensures
