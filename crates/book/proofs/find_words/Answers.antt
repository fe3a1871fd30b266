use Prim.Native.Nat.{◌+◌, ◌≤◌}
use Rattle.std.proofs.Common.{ℕ, ◌≡◌, List, length, arith}
use Rattle.rules.specs.Verdict.{SceneAnswer}
use Rattle.rules.specs.Book.{finding_scene}
use Rattle.theory.proofs.Contents.{finding_inside}
use Rattle.book.proofs.find_words.Goals as goal

inside : (book : List ℕ) (number : ℕ) {a : SceneAnswer} → a ≡ finding_scene book number → a.start + a.length ≤ length book
inside book number is = rw is (finding_inside book number)

pub slice_bounds-result-end : goal.slice_bounds-result-end
slice_bounds-result-end c = omega (arith, inside c.args.book.now c.args.number c.in_ok-scene.ensures, c.wide-start.ensures, c.wide.ensures)
