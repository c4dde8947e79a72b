use Rattle.book.specs.Meaning.{ties_of}
use Rattle.list_book.proofs.reading.ListBookReading.tie_count.Goals as goal

pub returns : goal.returns
unfolding ties_of
returns c = c.args.self.now.counted
