-- Listings by example: document 01's own, and one for each way to refuse bytes.
use Rattle.std.specs.Prelude.{ℕ, ◌/◌, ◌%◌, Bool, true, ◌&&◌, List, [], ◌∷◌, ◌++◌, replicate}
use Prim.Native.String.{String}
use Rattle.rules.specs.Form.{equal}
use Rattle.text.specs.Text.{ascii}
use Rattle.report.specs.Listing.{read_bytes, text_of}

-- the bytes of some words
abbrev bytes : List ℕ → List ℕ
bytes [] = []
bytes (w ∷ ws) = w % 0x100 ∷ w / 0x100 % 0x100 ∷ w / 0x10000 % 0x100 ∷ w / 0x1000000 ∷ bytes ws

pub record Example : Type 0 where
  pub input : List ℕ
  pub text : String

abbrev example : List ℕ → String → Example
example input text = record { input = input; text = text }

-- each input is listed as its text, from a zero image
unfoldable pub every : List Example → Bool
every [] = true
every (e ∷ es) = equal (text_of (read_bytes e.input (replicate 256 0) (replicate 64 0))) (ascii e.text) && every es

unfoldable pub examples : List Example
examples =
    example (bytes (0x02000010 ∷ 0x00000300 ∷ 0x48000000 ∷ 0 ∷ 0 ∷ 0 ∷ 0x21000100 ∷ 0x10100007 ∷ 0 ∷ 0 ∷ 0 ∷ []))
    "at id words head\n1 00 1 000300\n2 48 4 000000\n6 21 1 000100\n7 10 4 100007\naccepted commands 5 items 4\n"
    ∷ example (bytes (0x00ABCDEF ∷ 0x21000000 ∷ 0x14FEDCBA ∷ 0 ∷ 0 ∷ 0 ∷ []))
    "at id words head\n0 00 1 abcdef\n1 21 1 000000\n2 14 4 fedcba\naccepted commands 3 items 3\n"
    ∷ example [] "at id words head\naccepted commands 0 items 0\n"
    ∷ example (bytes (replicate 10 0x02000000 ++ (0x03000000 ∷ []))) "refused 4 at 10\n"
    ∷ example (bytes (0x06000000 ∷ []) ++ (0 ∷ 0 ∷ 0 ∷ [])) "refused 12 at 1\n"
    ∷ example (replicate 16385 0) "refused 1 at 4096\n"
    ∷ []
