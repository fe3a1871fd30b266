-- The rules on a command's own words: undefined bits, illegal values and clashes (document 01, "The commands"; document 02,
-- Tickets 2 and 3).
use Rattle.std.specs.Prelude.{ℕ, suc, ◌+◌, Bool, cond, not, ◌&&◌, ◌||◌, List, [], ◌∷◌, ◌++◌, eqb, leb, ltb, get_or}
use Rattle.rules.specs.Verdict.{Refusal}
use Rattle.rules.specs.Word.{bits, lowest_undefined, undefined}
use Rattle.rules.specs.Table.{Row}
use Rattle.rules.specs.Command.{more_masks}

-- a refusal's number and word. Of the bit, "every other verdict gives 32 there".
abbrev pub refusal : ℕ → ℕ → Refusal
refusal n w = record { number = n; word = w; bit = 32 }

-- 6: "undefined bit set", in word i of a command. "With 6, the answer now also gives the number of the lowest undefined
-- bit set in that word".
abbrev pub undefined_bit : ℕ → ℕ → ℕ → Refusal
undefined_bit i w mask = record { number = 6; word = i; bit = lowest_undefined w mask }

-- the refusal of a command's word where the command stands at position p
abbrev pub shift : ℕ → Refusal → Refusal
shift p f = record { number = f.number; word = p + f.word; bit = f.bit }

-- a test, and the refusal where it is true, its word counted from the command's first
pub record Fault : Type 0 where
  pub found : Bool
  pub why : Refusal

abbrev pub fault : Bool → ℕ → ℕ → Fault
fault b n w = record { found = b; why = refusal n w }

-- the refusal of the first fault found, else what follows
abbrev pub first_fault : {A : Type 0} → (Refusal → A) → List Fault → A → A
first_fault refuse [] none_found = none_found
first_fault refuse (f ∷ fs) none_found = cond f.found (refuse f.why) (first_fault refuse fs none_found)

-- 6 at the "lowest such word", from word i on
abbrev pub undefined_faults : ℕ → List ℕ → List ℕ → List Fault
undefined_faults i [] ws = []
undefined_faults i (m ∷ ms) [] = []
undefined_faults i (m ∷ ms) (w ∷ ws) = record { found = undefined w m; why = undefined_bit i w m } ∷ undefined_faults (suc i) ms ws

-- LOAD_GP (001, 4.1): "bit 23 converts IEEE floats, bits 22..20 are the load code, 18..10 the start offset, 8..0 the
-- length". The header, then the second to fourth words.
abbrev pub load_faults : ℕ → ℕ → ℕ → ℕ → List Fault
load_faults h a b c =
    let code = bits h 20 3 in
    let bare = eqb code 0 || eqb code 5 in
    -- "Codes are 0 null, 1 fetch, 2 put, 5 user clip planes; 3, 4, 6 and 7 are illegal."
    fault ((eqb code 3 || eqb code 4) || leb 6 code) 7 0
    -- "The second word is zero unless the code is 2."
    ∷ fault (not (eqb code 2) && not (eqb a 0)) 7 1
    -- "the third and fourth are zero for codes 0 and 5"
    ∷ fault (bare && not (eqb b 0)) 7 2
    ∷ fault (bare && not (eqb c 0)) 7 3
    -- 18 "bit 23 of a load": "bit 23 may be set only with code 5"
    ∷ fault (not (eqb code 5) && eqb (bits h 23 1) 1) 18 0
    -- 19 "plane range": "For code 5, offset plus length is at most 8"
    ∷ fault (eqb code 5 && ltb 8 (bits h 10 9 + bits h 0 9)) 19 0
    ∷ []

-- Primitive: "only the null primitive, .., with header and three words all zero. Any other value is illegal."
abbrev pub primitive_faults : ℕ → ℕ → ℕ → ℕ → List Fault
primitive_faults h a b c =
    fault (not (eqb h 0)) 7 0
    ∷ fault (not (eqb a 0)) 7 1
    ∷ fault (not (eqb b 0)) 7 2
    ∷ fault (not (eqb c 0)) 7 3
    ∷ []

-- "the stored maximum is at most 15, 11 and 6" for banks 0, 1 and 2
abbrev pub page_limit : ℕ → ℕ
page_limit bank = cond (eqb bank 0) 15 (cond (eqb bank 1) 11 6)

-- Window clip (001, 6.2): the second and third words. "bits 29..28 of the second word are the bank"; in the third,
-- "bits 31..28 are the stored page maximum and bits 15..12 the stored minimum".
abbrev pub clip_faults : ℕ → ℕ → List Fault
clip_faults a b =
    let bank = bits a 28 2 in
    let most = bits b 28 4 in
    let least = bits b 12 4 in
    -- "3 is illegal"
    fault (eqb bank 3) 7 1
    -- 15 "maximum over the bank's limit"
    ∷ fault (ltb (page_limit bank) most) 15 0
    -- 16 "minimum against maximum": "the minimum is zero or less than the stored maximum plus one" (02, Ticket 3). "Where
    -- 15 and 16 both hold, 15 is given."
    ∷ fault (not (eqb least 0 || ltb least (most + 1))) 16 0
    ∷ []

-- Raster mode (001, 6.3): 17 "raster bits": "if header bit 22 (page-based rendering) is 0, bit 14 (always full page) is 0"
abbrev pub raster_faults : ℕ → List Fault
raster_faults h = fault (eqb (bits h 22 1) 0 && eqb (bits h 14 1) 1) 17 0 ∷ []

-- 7 at the lowest such word, then "in 8's old place" 15 to 19, of a command with the given words after its first
unfoldable pub value_faults : ℕ → ℕ → List ℕ → List Fault
value_faults id h own =
    let a = get_or own 0 0 in
    let b = get_or own 1 0 in
    let c = get_or own 2 0 in
    cond (eqb id 0x40) (load_faults h a b c)
    (cond (eqb id 0x48) (primitive_faults h a b c)
    (cond (eqb id 0x84) (clip_faults a b)
    (cond (eqb id 0x88) (raster_faults h) [])))

-- 6, 7 and 15 to 19 in this order: a number goes over all the words before the next
unfoldable pub faults : Row → ℕ → List ℕ → List Fault
unfolding value_faults
faults r h own = undefined_faults 0 (r.mask ∷ more_masks r h) (h ∷ own) ++ value_faults r.id h own
