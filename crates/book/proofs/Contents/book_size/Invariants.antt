-- The entries that are left add to the size, and have the fault that all have.
use Rattle.std.proofs.Common.{◌+◌, ◌*◌, ◌≤◌, ◌≡◌, length, drop}
use Rattle.rules.specs.Book.{in_buffer, bodies_at}
use Rattle.book.specs.Tables.{entries_of, total, book_size}
use Rattle.book.proofs.Contents.book_size.Given as goal

abbrev pub invariant-loop-entry : goal.invariant-loop-entry
invariant-loop-entry l =
    let es = entries_of l.self.entries.now in
    let rest = entries_of (drop l.entry-index l.self.entries.now) in
    record {
      room : l.size ≤ bodies_at (length l.self.entries.now) + 4096 * l.entry-index;
      sum : l.size + total rest ≡ book_size es;
      inside : in_buffer l.words rest ≡ in_buffer l.words es;
    }
