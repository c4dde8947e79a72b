use Rattle.book.specs.Meaning.{ties_of}
use Rattle.board_book.proofs.keeping.BoardBookReading.tie_count.Goals as goal

pub returns : goal.returns
unfolding ties_of
returns c = c.args.self.now.counted
