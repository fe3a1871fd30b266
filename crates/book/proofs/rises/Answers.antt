use Rattle.std.proofs.Common.{rules, ltb, get_or}
use Rattle.std.proofs.lemmas.List.Sorted.{answers_always}
use Rattle.book.proofs.Entries.{rises-is}
use Rattle.book.proofs.rises.Goals as goal

pub returns : goal.returns
returns c = rises-is _ _ (c.is_sorted_by.ensures.cases (λ x y. ltb (get_or x 0 0) (get_or y 0 0)) (answers_always _ _ _ (λ f a r g called. search rules)))
