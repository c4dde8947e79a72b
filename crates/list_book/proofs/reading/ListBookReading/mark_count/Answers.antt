use Rattle.book.specs.Meaning.{marks_of}
use Rattle.list_book.proofs.reading.ListBookReading.mark_count.Goals as goal

pub returns : goal.returns
unfolding marks_of
returns c = c.mark_count.ensures
