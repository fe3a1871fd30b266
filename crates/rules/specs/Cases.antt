-- Cases P1 to P12 and N1 to N4 (document 01, "Cases on each side", as document 02, Tickets 2 and 3, changes them), lists
-- measured, the masks of a list's words, the guide's own PCI writes, sessions, lists in the other byte orders, and scene books, in
-- one table.
use Rattle.std.specs.Prelude.{ℕ, zero, suc, Bool, true, ◌&&◌, ◌||◌, List, [], ◌∷◌, ◌++◌, eqb, length, get_or, drop, replicate, set}
use Rattle.rules.specs.Verdict.{Refusal}
use Rattle.rules.specs.Place.{word_mask}
use Rattle.rules.specs.Form.{equal}
use Rattle.rules.specs.Answer.{answer_words, Outcome, normalising, measuring, written}
use Rattle.rules.specs.Pci.{to_pci, from_pci}
use Rattle.rules.specs.Session.{session_words, reading_scenes}
use Rattle.rules.specs.Swap.{reading_in, normalising_in}
use Rattle.rules.specs.Book.{finding_scene, stretch, writing_book}

-- what a case says of its list: its refusal, accepted with so many commands, accepted with a word of the new image,
-- accepted with its records, accepted with a normal form, measured, its words' masks, accepted with its PCI writes; of its
-- pairs: their refusal; of the words as a buffer of lists, with a table of them: the numbers told, the records written, and
-- image word 02; of the words as a book, asked for a scene: the verdict, and the stretch with its start; or of the words as a
-- buffer of bodies, with a table of them: the verdict, and the book written
pub data Want : Type 0 where
  refused_as : Refusal → Want
  commands : ℕ → Want
  image_word : ℕ → ℕ → Want
  records_are : List ℕ → Want
  normal_form_is : List ℕ → Want
  measured_as : List ℕ → Want
  masks_are : List ℕ → Want
  writes_are : List ℕ → Want
  pairs_refused_as : Refusal → Want
  session_is : List ℕ → List ℕ → List ℕ → ℕ → Want
  scene_is : ℕ → ℕ → ℕ → List ℕ → Want
  book_is : List ℕ → ℕ → List ℕ → Want

pub record Case : Type 0 where
  pub list : List ℕ
  pub start : List ℕ
  -- for the reader and the normaliser: the other calls have none
  pub mode : ℕ
  pub want : Want

-- "Buffers are large enough", but for the case of 11.
abbrev buffer : List ℕ
buffer = replicate 16 0

-- verdict, position and bit
abbrev told : ℕ → ℕ → ℕ → Refusal
told n p b = record { number = n; word = p; bit = b }

answered : Refusal → Outcome → Bool
answered f o = (eqb o.answer.verdict f.number && eqb o.answer.position f.word) && eqb o.answer.bit f.bit

-- "a refusal changes neither the image nor any buffer"
refuses : Refusal → List ℕ → Outcome → Bool
refuses f image o = answered f o && (equal o.image image && equal o.buffer buffer)

-- the reader and the normaliser give alike
alike : (Outcome → Bool) → List ℕ → List ℕ → ℕ → Bool
alike p ws image mode = p (reading_in ws image buffer mode) && p (normalising_in ws image buffer mode)

accepts : List ℕ → List ℕ → ℕ → Bool
accepts ws image mode =
    alike (answered (told 0 (length ws) 32)) ws image mode
    && eqb (reading_in ws image buffer mode).answer.commands (normalising_in ws image buffer mode).answer.commands

-- the masks of a list's words from position p on
abbrev masks_from : List ℕ → ℕ → List ℕ → List ℕ
masks_from ws p [] = []
masks_from ws p (u ∷ us) = word_mask ws p ∷ masks_from ws (suc p) us

-- a form is accepted too, in mode 0, and leaves the same image; behind pairs an odd last word is ignored
holds : List ℕ → List ℕ → ℕ → Want → Bool
holds ws image mode (refused_as f) = alike (refuses f image) ws image mode
holds ws image mode (commands k) = accepts ws image mode && eqb (normalising_in ws image buffer mode).answer.commands k
holds ws image mode (image_word i w) = accepts ws image mode && eqb (get_or (reading_in ws image buffer mode).image i 0) w
holds ws image mode (records_are rs) = accepts ws image mode && equal (written (reading_in ws image buffer mode)) rs
holds ws image mode (normal_form_is us) =
    (accepts ws image mode && equal (written (normalising_in ws image buffer mode)) us)
    && (accepts us image 0 && equal (reading_in us image buffer 0).image (reading_in ws image buffer mode).image)
holds ws image mode (measured_as ns) = equal (answer_words (measuring ws image)) ns
holds ws image mode (masks_are ms) = equal (masks_from ws 0 ws) ms
holds ws image mode (writes_are ps) =
    (answered (told 0 (length ws) 32) (to_pci ws image buffer) && equal (written (to_pci ws image buffer)) ps)
    && (answered (told 0 (length ws) 32) (from_pci ps image buffer) && (equal (written (from_pci ps image buffer)) ws
    && equal (written (from_pci (ps ++ (0x2800 ∷ [])) image buffer)) ws))
holds ps image mode (pairs_refused_as f) = refuses f image (from_pci ps image buffer)
holds ws image mode (session_is table numbers recs w) =
    let s = reading_scenes ws table image buffer in
    equal (session_words s.session) numbers && (equal s.buffer (recs ++ drop (length recs) buffer) && eqb (get_or s.image 0x02 0) w)
holds ws image mode (scene_is number verdict start body) =
    let a = finding_scene ws number in
    (eqb a.verdict verdict && eqb a.start start) && (eqb a.length (length body) && equal (stretch ws a) body)
holds ws image mode (book_is table verdict book) =
    let o = writing_book table ws buffer in
    eqb o.answer.verdict verdict && (eqb o.answer.words (length book) && equal o.buffer (book ++ drop (length book) buffer))

-- "it equals what the normaliser gives .. wherever that isn't 11"
measured_alike : List ℕ → List ℕ → Bool
measured_alike ws image =
    eqb (normalising ws image buffer).answer.verdict 11 || equal (answer_words (measuring ws image)) (answer_words (normalising ws image buffer).answer)

unfoldable pub every : List Case → Bool
unfolding holds accepts alike refuses answered measured_alike
every [] = true
every (c ∷ cs) = (holds c.list c.start c.mode c.want && measured_alike c.list c.start) && every cs

abbrev zeros : List ℕ
zeros = replicate 256 0

abbrev in_mode : ℕ → List ℕ → List ℕ → Want → Case
in_mode mode image ws w = record { list = ws; start = image; mode = mode; want = w }

abbrev from : List ℕ → List ℕ → Want → Case
from = in_mode 0

abbrev from_zeros : List ℕ → Want → Case
from_zeros = from zeros

abbrev swapped : ℕ → List ℕ → Want → Case
swapped mode = in_mode mode zeros

-- refused with a number at a word, or pairs at a pair, with no bit
abbrev refused_at : ℕ → ℕ → Want
refused_at n p = refused_as (told n p 32)

abbrev pairs_refused_at : ℕ → ℕ → Want
pairs_refused_at n p = pairs_refused_as (told n p 32)

abbrev n1 : List ℕ
n1 = 0x02000010 ∷ 0x02000020 ∷ 0x00000001 ∷ 0x02000020 ∷ []

abbrev null_primitives : ℕ → List ℕ
null_primitives zero = []
null_primitives (suc n) = 0x48000000 ∷ 0 ∷ 0 ∷ 0 ∷ null_primitives n

-- lists of a session: a surface base at the end of the first, 4 at the second word of (4, 2), 6 at the last word
abbrev scenes : List ℕ
scenes = 0x02000010 ∷ 0x00000001 ∷ 0x21000000 ∷ 0x00000002 ∷ 0x02000020 ∷ 0x03000000 ∷ 0x01000002 ∷ []

-- the record of its first two words
abbrev flush_record : List ℕ
flush_record = 0x00 ∷ 1 ∷ 1 ∷ 0x000001 ∷ []

-- those of its first three
abbrev flip_records : List ℕ
flip_records = flush_record ++ (0x21 ∷ 2 ∷ 1 ∷ 0x000000 ∷ [])

-- that of its fourth, as the first of a list
abbrev next_record : List ℕ
next_record = 0x00 ∷ 0 ∷ 1 ∷ 0x000002 ∷ []

-- scenes 2 and 7, of two words and of one
abbrev book : List ℕ
book = 2 ∷ 2 ∷ 7 ∷ 2 ∷ 7 ∷ 9 ∷ 1 ∷ 0xA ∷ 0xB ∷ 0xC ∷ []

-- the same bodies in a buffer where the second stands first, and a table of them
abbrev loose : List ℕ
loose = 0xC ∷ 0xA ∷ 0xB ∷ []

abbrev loose_table : List ℕ
loose_table = 2 ∷ 1 ∷ 2 ∷ 7 ∷ 0 ∷ 1 ∷ []

-- a book's refusal, told for a scene that it would have
abbrev book_refused : List ℕ → ℕ → Case
book_refused ws n = from_zeros ws (scene_is 2 n 0 [])

unfoldable pub cases : List Case
cases =
    from_zeros [] (commands 0)
    ∷ from_zeros (0x02000010 ∷ []) (image_word 0x02 0x10)
    ∷ from_zeros (0x03000000 ∷ []) (refused_at 4 0)
    ∷ from_zeros (0x06000000 ∷ []) (refused_at 3 0)
    ∷ from_zeros (0x84000000 ∷ 0 ∷ 0 ∷ []) (refused_at 5 0)
    ∷ from_zeros (0x01000002 ∷ []) (refused_as (told 6 0 1))
    ∷ from_zeros (0x84000000 ∷ 0x30000000 ∷ 0 ∷ 0 ∷ []) (refused_at 7 1)
    ∷ from_zeros (0x84000000 ∷ 0x10000000 ∷ 0xC0000000 ∷ 0 ∷ []) (refused_at 15 0)
    -- "P9 becomes accepted, and third word 30004000 takes its place as refused."
    ∷ from_zeros (0x84000000 ∷ 0 ∷ 0x40004000 ∷ 0 ∷ []) (commands 1)
    ∷ from_zeros (0x84000000 ∷ 0 ∷ 0x30004000 ∷ 0 ∷ []) (refused_at 16 0)
    ∷ from_zeros (0x88004000 ∷ 0 ∷ 0 ∷ 0 ∷ []) (refused_at 17 0)
    ∷ from_zeros (0x40500001 ∷ replicate 6 0) (refused_at 9 0)
    ∷ from_zeros (0x21000000 ∷ 0x21000000 ∷ []) (refused_at 10 1)
    -- the clashes of a load, the second "since 8 comes before 9"; of two clashes of a window clip the first
    ∷ from_zeros (0x40900000 ∷ 0 ∷ 0 ∷ 0 ∷ []) (refused_at 18 0)
    ∷ from_zeros (0x40501C02 ∷ 0 ∷ 0 ∷ 0 ∷ []) (refused_at 19 0)
    ∷ from_zeros (0x84000000 ∷ 0x10000000 ∷ 0xC000D000 ∷ 0 ∷ []) (refused_at 15 0)
    -- of several undefined bits the lowest, at the lowest word
    ∷ from_zeros (0x02000010 ∷ 0x88000000 ∷ 0 ∷ 0x80C00000 ∷ 0xFF000000 ∷ []) (refused_as (told 6 3 22))
    -- the masks of a reset, a load with its payload, which is data, and a BEGIN
    ∷ from_zeros (0x01000000 ∷ 0x40000001 ∷ 0 ∷ 0 ∷ 0 ∷ 0x01000002 ∷ 0 ∷ 0 ∷ 0x08000000 ∷ 0x08000000 ∷ 0 ∷ 0 ∷ 0 ∷ [])
    (masks_are (0xFF000714 ∷ 0xFFF7FDFF ∷ replicate 7 0xFFFFFFFF ++ (0xFFFFFFFF ∷ 0x803FFFFF ∷ 0x0FFFFFFF ∷ 0 ∷ [])))
    -- no room, for records or for a form
    ∷ from_zeros (0x02000010 ∷ null_primitives 5) (refused_at 11 21)
    -- the same list measured; one with settings behind its work; and a refused one, whose length is 0
    ∷ from_zeros (0x02000010 ∷ null_primitives 5) (measured_as (0 ∷ 21 ∷ 6 ∷ 5 ∷ 21 ∷ 32 ∷ []))
    ∷ from_zeros (0x02000010 ∷ 0x02000020 ∷ 0x00000001 ∷ 0x02000030 ∷ 0x26000001 ∷ []) (measured_as (0 ∷ 5 ∷ 5 ∷ 1 ∷ 4 ∷ 32 ∷ []))
    ∷ from_zeros (0x00000001 ∷ 0x01000002 ∷ []) (measured_as (6 ∷ 1 ∷ 0 ∷ 0 ∷ 0 ∷ 1 ∷ []))
    ∷ from_zeros n1 (normal_form_is (0x02000020 ∷ 0x00000001 ∷ []))
    ∷ from_zeros (0x02000010 ∷ 0x02000000 ∷ []) (normal_form_is [])
    ∷ from_zeros (0x31800001 ∷ 0x02000005 ∷ []) (normal_form_is (0x02000005 ∷ 0x31800001 ∷ []))
    -- settings in rising id
    ∷ from_zeros (0x31000001 ∷ 0x30000001 ∷ 0x26000001 ∷ []) (normal_form_is (0x26000001 ∷ 0x30000001 ∷ 0x31000001 ∷ []))
    ∷ from (set zeros 0x02 0x20) n1 (normal_form_is (0x00000001 ∷ []))
    -- "2804_01000004 (reset 2D engine)" and "2920_48000000 (1st Dword)" with the next three (001, 3)
    ∷ from_zeros (0x01000004 ∷ []) (writes_are (0x2804 ∷ 0x01000004 ∷ []))
    ∷ from_zeros (0x48000000 ∷ 0 ∷ 0 ∷ 0 ∷ []) (writes_are (0x2920 ∷ 0x48000000 ∷ 0x2924 ∷ 0 ∷ 0x2928 ∷ 0 ∷ 0x292C ∷ 0 ∷ []))
    -- a payload group again at the load's own addresses; BEGIN, a group
    ∷ from_zeros (0x40000001 ∷ 0 ∷ 0 ∷ 0 ∷ 1 ∷ 2 ∷ 3 ∷ 4 ∷ [])
    (writes_are (0x2900 ∷ 0x40000001 ∷ 0x2904 ∷ 0 ∷ 0x2908 ∷ 0 ∷ 0x290C ∷ 0 ∷ 0x2900 ∷ 1 ∷ 0x2904 ∷ 2 ∷ 0x2908 ∷ 3 ∷ 0x290C ∷ 4 ∷ []))
    ∷ from_zeros (0x08000000 ∷ 0 ∷ 0 ∷ 0 ∷ []) (writes_are (0x2820 ∷ 0x08000000 ∷ 0x2824 ∷ 0 ∷ 0x2828 ∷ 0 ∷ 0x282C ∷ 0 ∷ []))
    -- pairs cut inside a command, at its first; a wrong address before the cut, at that pair; an odd last word is no pair
    ∷ from_zeros (0x2800 ∷ 0 ∷ 0x2920 ∷ 0x48000000 ∷ 0x2924 ∷ 0 ∷ []) (pairs_refused_at 14 1)
    ∷ from_zeros (0x2800 ∷ 0 ∷ 0x2920 ∷ 0x48000000 ∷ 0x2928 ∷ 0 ∷ []) (pairs_refused_at 13 2)
    ∷ from_zeros (0x2800 ∷ 0 ∷ 0x2920 ∷ 0x48000000 ∷ 0x2924 ∷ 0 ∷ 0x292C ∷ []) (pairs_refused_at 14 1)
    -- an unknown id at its own address, and a wrong address behind it
    ∷ from_zeros (0x280C ∷ 0x03000000 ∷ 0x285C ∷ 0x17000000 ∷ []) (pairs_refused_at 4 0)
    ∷ from_zeros (0x285C ∷ 0x17000000 ∷ 0x2801 ∷ 0 ∷ []) (pairs_refused_at 13 1)
    -- the bit and a clash of the list that pairs carry
    ∷ from_zeros (0x2800 ∷ 0 ∷ 0x2804 ∷ 0x01000003 ∷ []) (pairs_refused_as (told 6 1 0))
    ∷ from_zeros (0x2A20 ∷ 0x88004000 ∷ 0x2A24 ∷ 0 ∷ 0x2A28 ∷ 0 ∷ 0x2A2C ∷ 0 ∷ []) (pairs_refused_at 17 0)
    -- a list behind a surface base need not open with BEGIN; positions inside each list, sums, and the last list's length
    ∷ from_zeros scenes (session_is (0 ∷ 3 ∷ 3 ∷ 2 ∷ []) (0 ∷ 2 ∷ 5 ∷ 3 ∷ 12 ∷ 32 ∷ 2 ∷ []) (flip_records ++ next_record) 0x20)
    -- a refusal, of a command, of its bit, and for want of room: the lists before stay applied and counted
    ∷ from_zeros scenes (session_is (0 ∷ 2 ∷ 4 ∷ 2 ∷ 3 ∷ 1 ∷ []) (4 ∷ 1 ∷ 2 ∷ 1 ∷ 4 ∷ 32 ∷ 1 ∷ []) flush_record 0x10)
    ∷ from_zeros scenes (session_is (0 ∷ 2 ∷ 6 ∷ 1 ∷ []) (6 ∷ 0 ∷ 2 ∷ 1 ∷ 4 ∷ 1 ∷ 1 ∷ []) flush_record 0x10)
    ∷ from_zeros scenes (session_is (0 ∷ 3 ∷ 3 ∷ 1 ∷ 1 ∷ 2 ∷ []) (11 ∷ 2 ∷ 4 ∷ 3 ∷ 12 ∷ 32 ∷ 2 ∷ []) (flip_records ++ next_record) 0x10)
    -- 20 when its turn comes, and ahead of the image's size; no list at the buffer's end; an odd last word
    ∷ from_zeros scenes (session_is (0 ∷ 2 ∷ 6 ∷ 2 ∷ []) (20 ∷ 0 ∷ 2 ∷ 1 ∷ 4 ∷ 32 ∷ 1 ∷ []) flush_record 0x10)
    ∷ from_zeros scenes (session_is (0xFFFFFFFF ∷ 1 ∷ []) (20 ∷ 0 ∷ 0 ∷ 0 ∷ 0 ∷ 32 ∷ 0 ∷ []) [] 0)
    ∷ from_zeros scenes (session_is (7 ∷ 0 ∷ 5 ∷ []) (0 ∷ 0 ∷ 0 ∷ 0 ∷ 0 ∷ 32 ∷ 1 ∷ []) [] 0)
    ∷ from [] scenes (session_is (8 ∷ 0 ∷ []) (20 ∷ 0 ∷ 0 ∷ 0 ∷ 0 ∷ 32 ∷ 0 ∷ []) [] 0)
    ∷ from [] scenes (session_is (7 ∷ 0 ∷ []) (2 ∷ 0 ∷ 0 ∷ 0 ∷ 0 ∷ 32 ∷ 0 ∷ []) [] 0)
    ∷ from [] scenes (session_is (5 ∷ []) (0 ∷ 0 ∷ 0 ∷ 0 ∷ 0 ∷ 32 ∷ 0 ∷ []) [] 0)
    -- the 4,096th pair and the next
    ∷ from_zeros scenes (session_is (replicate 8194 0) (20 ∷ 0 ∷ 0 ∷ 0 ∷ 0 ∷ 32 ∷ 4096 ∷ []) [] 0)
    -- one list in each byte order: image, form and records hold the words got
    ∷ swapped 0 (0x02112233 ∷ []) (normal_form_is (0x02112233 ∷ []))
    ∷ swapped 1 (0x11023322 ∷ []) (normal_form_is (0x02112233 ∷ []))
    ∷ swapped 2 (0x22330211 ∷ []) (normal_form_is (0x02112233 ∷ []))
    ∷ swapped 3 (0x33221102 ∷ []) (normal_form_is (0x02112233 ∷ []))
    ∷ swapped 1 (0x11023322 ∷ []) (image_word 0x02 0x112233)
    ∷ swapped 2 (0x22330011 ∷ []) (records_are (0x00 ∷ 0 ∷ 1 ∷ 0x112233 ∷ []))
    -- a payload is swapped too: as they stand, its words would be commands
    ∷ swapped 3 (0x01000040 ∷ 0 ∷ 0 ∷ 0 ∷ 0x01000000 ∷ 0x02000000 ∷ 0x03000000 ∷ 0x04000000 ∷ [])
    (normal_form_is (0x40000001 ∷ 0 ∷ 0 ∷ 0 ∷ 1 ∷ 2 ∷ 3 ∷ 4 ∷ []))
    -- positions stay, and the bit is one of the word got
    ∷ swapped 3 (0x10000002 ∷ 0x02000001 ∷ []) (refused_as (told 6 1 1))
    ∷ swapped 3 (replicate 4097 0) (refused_at 1 4096)
    -- a mode over 3, before all else
    ∷ swapped 4 [] (refused_at 21 0)
    ∷ swapped 0xFFFFFFFF [] (refused_at 21 0)
    ∷ swapped 4 (replicate 4097 0) (refused_at 21 0)
    ∷ in_mode 4 [] [] (refused_at 21 0)
    -- each scene of a book, numbers below, between and above, and a book of no entries
    ∷ from_zeros book (scene_is 2 0 7 (0xA ∷ 0xB ∷ []))
    ∷ from_zeros book (scene_is 7 0 9 (0xC ∷ []))
    ∷ from_zeros book (scene_is 1 25 0 [])
    ∷ from_zeros book (scene_is 3 25 0 [])
    ∷ from_zeros book (scene_is 8 25 0 [])
    ∷ book_refused (0 ∷ []) 25
    -- a scene without words is found; numbers are unsigned
    ∷ from_zeros (2 ∷ 2 ∷ 7 ∷ 0 ∷ 0xFFFFFFFF ∷ 7 ∷ 1 ∷ 5 ∷ []) (scene_is 2 0 7 [])
    ∷ from_zeros (2 ∷ 2 ∷ 7 ∷ 0 ∷ 0xFFFFFFFF ∷ 7 ∷ 1 ∷ 5 ∷ []) (scene_is 0xFFFFFFFF 0 7 (5 ∷ []))
    -- 22: no first word, a table cut short, 257 entries; 256 are not
    ∷ book_refused [] 22
    ∷ book_refused (1 ∷ 2 ∷ 4 ∷ []) 22
    ∷ book_refused (257 ∷ replicate 771 0) 22
    ∷ book_refused (256 ∷ replicate 768 0) 23
    -- 23: numbers that are equal or fall, also where a body is out of place before
    ∷ book_refused (2 ∷ 2 ∷ 7 ∷ 0 ∷ 2 ∷ 7 ∷ 1 ∷ 5 ∷ []) 23
    ∷ book_refused (2 ∷ 2 ∷ 8 ∷ 0 ∷ 1 ∷ 7 ∷ 1 ∷ 5 ∷ []) 23
    -- 24: words left over, a gap, starts counted from the bodies, a body past the end, bodies that overlap
    ∷ book_refused (0 ∷ 1 ∷ []) 24
    ∷ book_refused (1 ∷ 2 ∷ 5 ∷ 1 ∷ 0 ∷ 0 ∷ []) 24
    ∷ book_refused (1 ∷ 2 ∷ 0 ∷ 1 ∷ 0 ∷ []) 24
    ∷ book_refused (1 ∷ 2 ∷ 4 ∷ 2 ∷ 0 ∷ []) 24
    ∷ book_refused (2 ∷ 2 ∷ 7 ∷ 2 ∷ 7 ∷ 8 ∷ 1 ∷ 0xA ∷ 0xB ∷ 0xC ∷ []) 24
    -- the longest body, and one word more
    ∷ from_zeros (1 ∷ 2 ∷ 4 ∷ 4096 ∷ replicate 4096 5) (scene_is 2 0 4 (replicate 4096 5))
    ∷ book_refused (1 ∷ 2 ∷ 4 ∷ 4097 ∷ replicate 4097 5) 24
    -- a book written: starts are computed; of no entries; of one body twice
    ∷ from_zeros loose (book_is loose_table 0 book)
    ∷ from_zeros loose (book_is [] 0 (0 ∷ []))
    ∷ from_zeros loose (book_is (3 ∷ 1 ∷ 1 ∷ 4 ∷ 1 ∷ 1 ∷ []) 0 (2 ∷ 3 ∷ 7 ∷ 1 ∷ 4 ∷ 8 ∷ 1 ∷ 0xA ∷ 0xA ∷ []))
    -- the table's refusals in their order, each over all entries before the next, and no room last
    ∷ from_zeros loose (book_is (2 ∷ 9 ∷ []) 22 [])
    ∷ from_zeros loose (book_is (replicate 771 0) 22 [])
    ∷ from_zeros loose (book_is (replicate 768 0) 23 [])
    ∷ from_zeros loose (book_is (7 ∷ 9 ∷ 9 ∷ 7 ∷ 0 ∷ 1 ∷ []) 23 [])
    ∷ from_zeros loose (book_is (2 ∷ 1 ∷ 3 ∷ []) 24 [])
    ∷ from_zeros loose (book_is (2 ∷ 0xFFFFFFFF ∷ 1 ∷ []) 24 [])
    ∷ from_zeros (replicate 4097 5) (book_is (2 ∷ 0 ∷ 4097 ∷ []) 24 [])
    ∷ from_zeros (replicate 4097 5) (book_is (2 ∷ 0 ∷ 4096 ∷ []) 11 [])
    -- just room, and one word less; a body without words at the buffer's end, and behind it
    ∷ from_zeros (replicate 12 5) (book_is (2 ∷ 0 ∷ 12 ∷ []) 0 (1 ∷ 2 ∷ 4 ∷ 12 ∷ replicate 12 5))
    ∷ from_zeros (replicate 13 5) (book_is (2 ∷ 0 ∷ 13 ∷ []) 11 [])
    ∷ from_zeros loose (book_is (2 ∷ 3 ∷ 0 ∷ []) 0 (1 ∷ 2 ∷ 4 ∷ 0 ∷ []))
    ∷ from_zeros loose (book_is (2 ∷ 4 ∷ 0 ∷ []) 24 [])
    ∷ []
