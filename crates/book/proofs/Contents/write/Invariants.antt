-- What is to come from the entries that are left is what was to come at first.
use Rattle.std.proofs.Common.{◌+◌, ◌*◌, ◌≡◌, true, length, drop}
use Rattle.rules.specs.Book.{in_buffer, bodies_at}
use Rattle.book.specs.Tables.{entries_of, total, book_size, with_scenes}
use Rattle.book.proofs.Contents.write.Given as goal

abbrev pub invariant-loop-k : goal.invariant-loop-k
invariant-loop-k l =
    let es = entries_of l.self.entries.now in
    let rest = entries_of (drop l.k l.self.entries.now) in
    record {
      inside : in_buffer (length l.words) rest ≡ true;
      sum : l.at + total rest ≡ book_size es;
      same : with_scenes l.words (3 * l.k + 1) l.at rest l.book ≡ with_scenes l.words 1 (bodies_at (length l.self.entries.now)) es l.initial.book;
    }
