use Rattle.book.proofs.Entries.{made}
use Rattle.book.proofs.Contents.new.Goals as goal

pub returns : goal.returns
returns c = made c.args.n c.args.words.now c.if-n-gt256.false c.if-entries-n.false c.as_chunks.ensures.front c.as_chunks.ensures.front_len
