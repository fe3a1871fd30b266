-- The entries that are left have the fault that all have.
use Rattle.std.proofs.Common.{◌+◌, ◌*◌, ◌≤◌, ◌≡◌, length, drop}
use Rattle.rules.specs.Book.{rising, in_place, bodies_at}
use Rattle.book.specs.Tables.{entries_of}
use Rattle.book.proofs.Entries.{at_least}
use Rattle.book.proofs.Contents.check.Given as goal

abbrev pub invariant-loop-k : goal.invariant-loop-k
invariant-loop-k l =
    let es = entries_of l.self.entries.now in
    let rest = entries_of (drop l.k l.self.entries.now) in
    let n = length l.self.entries.now in
    record {
      room : l.at ≤ bodies_at n + 4096 * l.k;
      numbers : at_least l.least rest ≡ rising es;
      bodies : in_place l.at l.end rest ≡ in_place (bodies_at n) l.end es;
    }
