-- What a list sets and draws, as text.
use Rattle.std.specs.Prelude.{ℕ, cond, List, [], ◌∷◌, ◌++◌, eqb, replicate}
use Rattle.rules.specs.Verdict.{Answer}
use Rattle.rules.specs.Table.{Row, size, settings}
use Rattle.rules.specs.Form.{read, equal}
use Rattle.rules.specs.Answer.{Outcome, reading, measuring, written}
use Rattle.text.specs.Text.{ascii}
use Rattle.format.specs.Format.{formatted}
use Rattle.names.specs.Names.{commands}
use Rattle.lines.specs.Lines.{record_lines, counts_line}
use Rattle.verdict.specs.Verdict.{verdict_text}

-- some words, each behind a space
unfoldable pub words_text : List ℕ → List ℕ
words_text [] = []
words_text (w ∷ ws) = formatted [] (ascii " %8") (w ∷ []) ++ words_text ws

-- a setting's line: its id, its name, its words in two images
unfoldable pub setting_line : ℕ → ℕ → List ℕ → List ℕ → List ℕ
setting_line id size before after =
    formatted commands (ascii "%2%n") (id ∷ id ∷ [])
    ++ (words_text (read before id size) ++ (ascii " ->" ++ (words_text (read after id size) ++ ascii "\n")))

-- where at least one of the words differs
unfoldable pub change_line : ℕ → ℕ → List ℕ → List ℕ → List ℕ
change_line id size before after = cond (equal (read before id size) (read after id size)) [] (setting_line id size before after)

-- of some settings
unfoldable pub change_lines : List Row → List ℕ → List ℕ → List ℕ
change_lines [] before after = []
change_lines (r ∷ rs) before after = change_line r.id (size r) before after ++ change_lines rs before after

unfoldable pub sets_text : List ℕ → List ℕ → List ℕ
sets_text before after = ascii "sets: id name before -> after\n" ++ change_lines settings before after

-- a work command's line: as in the listing, and its name
abbrev pub work_lines : List ℕ → List ℕ
work_lines records = record_lines commands (ascii "%d %2 %d %6%n\n") records

unfoldable pub draws_text : List ℕ → List ℕ
draws_text records = ascii "draws: at id words head name\n" ++ work_lines records

-- the words of a list, and those of its normal form
abbrev pub words_line : ℕ → ℕ → List ℕ
words_line list form = formatted [] (ascii "words %d normal form %d\n") (list ∷ form ∷ [])

-- the counts, what the list sets, what it draws, its words
unfoldable pub accepted_text : Answer → List ℕ → List ℕ → List ℕ → ℕ → List ℕ
accepted_text a before after records form =
    counts_line a.commands a.records ++ (sets_text before after ++ (draws_text records ++ words_line a.position form))

abbrev pub shown_outcome : List ℕ → List ℕ → Outcome → List ℕ
shown_outcome ws image o =
    cond (eqb o.answer.verdict 0) (accepted_text o.answer image o.image (written o) (measuring ws image).words)
    (verdict_text o.answer ws [] 1024)

-- of a list, from an image; no list has more than 4,096 records
unfoldable pub show_text : List ℕ → List ℕ → List ℕ
show_text ws image = shown_outcome ws image (reading ws image (replicate 16384 0))
