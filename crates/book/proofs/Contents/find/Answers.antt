use Rattle.std.proofs.Common.{[], rules}
use Rattle.book.proofs.Entries.{first-from, found-there, none-there, other-there}
use Rattle.book.proofs.Contents.find.Goals as goal

pub returns-in_default : goal.returns-in_default
returns-in_default c =
    let first = first-from _ _ c.requires _ c.partition_point-k.ensures.partitioned (λ a r f called. search rules) in
    let none = rw c.in_default.is at c.get.ensures.lookup in
    none-there _ _ _ first none.3

pub returns-then-found-number : goal.returns-then-found-number
returns-then-found-number c =
    let first = first-from _ _ c.requires _ c.partition_point-k.ensures.partitioned (λ a r f called. search rules) in
    let item = c.in-Some.ensures.lookup.3 in
    other-there _ _ _ first c.requires item.0 (rw (item.1 []) at c.if-found-number.true)

pub returns : goal.returns
returns c =
    let first = first-from _ _ c.requires _ c.partition_point-k.ensures.partitioned (λ a r f called. search rules) in
    let item = c.in-Some.ensures.lookup.3 in
    found-there _ _ _ first item.0 (item.1 []) c.if-found-number.false
