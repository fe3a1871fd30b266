use Prim.Native.Nat.{◌*◌}
use mathlib.Core.Path.{◌≡◌, sym, ◌∙◌}
use lib.Seq.{sets}
use Rattle.rules.specs.Form.{read}
use Rattle.rules.specs.Pci.{pairs_from}
use Rattle.pci_writer.proofs.Writing.{command-put}
use Rattle.pci_writer.proofs.write_command.Goals as goal
use Rattle.pci_writer.proofs.write_command.Goals.{in-1, in-4, in_default}

pub returns : goal.returns
returns c = let a = c.args in
    let put : c.match-words.pairs ≡ sets a.pairs.now (2 * a.at) (pairs_from c.id_of-id.result 0 (read a.list.now a.at c.size_at-words.result)) = elim c.match-words.branch [
      | in-1 w ↦ w.pairs-is ∙ rw w.in-1.is w.write_words.ensures
      | in-4 w ↦ w.pairs-is ∙ rw w.in-4.is w.write_words-in-4.ensures
      | in_default w ↦ w.pairs-is ∙ w.write_words-in_default.ensures
    ] in
    let e = command-put _ _ c.requires.0 _ c.fetch.ensures _ c.id_of-id.ensures _ (sym c.size_at-words.ensures) a.pairs.now _ put in
    record { value = e.0; pairs_value = e.1 }
