-- The text of a verdict: the counts of an accepted list, or what a scene builder needs of a refusal.
use Rattle.std.specs.Prelude.{ℕ, ◌*◌, ◌/◌, cond, List, [], ◌∷◌, ◌++◌, eqb, ltb, length, get_or}
use Rattle.rules.specs.Verdict.{Answer}
use Rattle.rules.specs.Word.{id_of}
use Rattle.text.specs.Text.{ascii}
use Rattle.format.specs.Format.{formatted}
use Rattle.names.specs.Names.{commands, refusal_row}
use Rattle.lines.specs.Lines.{counts_line, refused_line}
use Rattle.rules.specs.Place.{start_of}

-- with 2, the bytes that were read of an image
unfoldable pub image_line : ℕ → ℕ → List ℕ
image_line number bytes = cond (eqb number 2) (formatted [] (ascii "image %d bytes\n") (bytes ∷ [])) []

-- the address of a pair
unfoldable pub address_line : List ℕ → ℕ → List ℕ
address_line pairs p = cond (ltb p (length pairs / 2)) (formatted [] (ascii "address %8\n") (get_or pairs (2 * p) 0 ∷ [])) []

-- a word of a list, and the command that it stands in: its id, its name, and the position of its first word
unfoldable pub place_lines : List ℕ → ℕ → List ℕ
place_lines ws p =
    let start = start_of ws p in
    let id = id_of (get_or ws start 0) in
    cond (ltb p (length ws)) (formatted commands (ascii "word %8\ncommand %2%n at %d\n") (get_or ws p 0 ∷ id ∷ id ∷ start ∷ [])) []

-- the bit told; 32 is none
unfoldable pub bit_line : ℕ → List ℕ
bit_line bit = cond (eqb bit 32) [] (formatted [] (ascii "bit %d\n") (bit ∷ []))

-- what the refusal means, and what to look at
abbrev pub why_line : ℕ → List ℕ
why_line number = ascii "why" ++ (refusal_row number ++ ascii "\n")

-- of a list, or of the list that pairs carry; both are empty where no word of it was read
unfoldable pub refusal_text : Answer → List ℕ → List ℕ → ℕ → List ℕ
refusal_text a ws pairs bytes =
    refused_line a.verdict a.position
    ++ (image_line a.verdict bytes
    ++ (address_line pairs a.position ++ (place_lines ws a.position ++ (bit_line a.bit ++ why_line a.verdict))))

unfoldable pub verdict_text : Answer → List ℕ → List ℕ → ℕ → List ℕ
verdict_text a ws pairs bytes = cond (eqb a.verdict 0) (counts_line a.commands a.records) (refusal_text a ws pairs bytes)
