-- What the functions return, as the verdicts that the papers have.
use Rattle.std.specs.Prelude.{ℕ, List, [], Result, Ok, Err}
use denote.Ref.{Bor}
use Rattle.rules.specs.declared.Reason.{Reason}
use Rattle.rules.specs.declared.Reason.TheVariants as reason
use Rattle.rules.specs.declared.Refusal.{Refusal as Returned}
use Rattle.rules.specs.declared.Accepted.{Accepted}
use Rattle.rules.specs.declared.Session.{Session}
use Rattle.rules.specs.declared.Scene.{Scene}
use Rattle.rules.specs.declared.Answer.{Answer as Numbers}
use Rattle.rules.specs.declared.SessionAnswer.{SessionAnswer as SessionNumbers}
use Rattle.rules.specs.declared.SceneAnswer.{SceneAnswer as SceneNumbers}
use Rattle.rules.specs.declared.BookAnswer.{BookAnswer as BookNumbers}
use Rattle.rules.specs.Verdict.{Refusal, Answer, SessionAnswer, SceneAnswer, BookAnswer}
use Rattle.rules.specs.Answer.{refused_answer, accepted_answer}
use Rattle.rules.specs.Book.{Told, found, no_scene, book_answer}

-- the numbers of document 01's table, and of document 02's tickets
abbrev pub number_of : Reason → ℕ
number_of reason.TooManyWords = 1
number_of reason.ImageSize = 2
number_of reason.UnknownId = 3
number_of reason.PciOnly = 4
number_of reason.GroupCut = 5
number_of (reason.UndefinedBit bit) = 6
number_of reason.IllegalValue = 7
number_of reason.PayloadCut = 9
number_of reason.NoBegin = 10
number_of reason.NoRoom = 11
number_of reason.BrokenWord = 12
number_of reason.WrongAddress = 13
number_of reason.CommandCut = 14
number_of reason.PageMaximum = 15
number_of reason.PageMinimum = 16
number_of reason.RasterBits = 17
number_of reason.FloatBit = 18
number_of reason.PlaneRange = 19
number_of reason.OutsideBuffer = 20
number_of reason.NoSuchMode = 21
number_of reason.BadContents = 22
number_of reason.NumbersFall = 23
number_of reason.BodiesMisplaced = 24
number_of reason.NoScene = 25

-- "every other verdict gives 32 there"
abbrev pub bit_of : Reason → ℕ
bit_of (reason.UndefinedBit bit) = bit
bit_of r = 32

-- the refusal with its number
abbrev pub numbered_refusal : Returned → Refusal
numbered_refusal f = record { number = number_of f.reason; bit = bit_of f.reason; word = f.word }

-- what is returned, or the refusal with its number
abbrev pub numbered : {A : Type 0} → Result A Returned → Result A Refusal
numbered (Ok x) = Ok x
numbered (Err f) = Err (numbered_refusal f)

-- "On refusal the last three are 0"
abbrev pub answer_of : Result Accepted Returned → Answer
answer_of (Ok a) = accepted_answer a.position a.commands a.records a.words
answer_of (Err f) = refused_answer (numbered_refusal f)

-- "the position is the last call's", as the verdict and the bit are; "Counts are sums over the lists applied"
abbrev pub session_end : ℕ → ℕ → ℕ → Result ℕ Returned → Answer
session_end commands records words (Ok position) = accepted_answer position commands records words
session_end commands records words (Err f) =
    record { verdict = number_of f.reason; position = f.word; commands = commands; records = records; words = words; bit = bit_of f.reason }

abbrev pub session_answer_of : Session → SessionAnswer
session_answer_of s = record { answer = session_end s.commands s.records s.words s.end; lists = s.lists }

-- 0 with the place of a scene, or a refusal with no place
abbrev pub scene_answer_of : Result Scene Reason → SceneAnswer
scene_answer_of (Ok s) = record { verdict = 0; start = s.start; length = s.length }
scene_answer_of (Err r) = no_scene (number_of r)

-- what a caller is told by a stretch that is handed back, or by a refusal
abbrev pub told_of : Result (Bor (List ℕ)) Reason → Told
told_of (Ok stretch) = found stretch.now
told_of (Err reason) = record { verdict = number_of reason; words = [] }

-- 0 with the words written, or a refusal with none
abbrev pub book_answer_of : Result ℕ Reason → BookAnswer
book_answer_of (Ok words) = book_answer 0 words
book_answer_of (Err r) = book_answer (number_of r) 0

-- ---- any numbers, as a caller's words hold them

abbrev pub answer_with : Numbers → Answer
answer_with a = record { verdict = a.verdict; bit = a.bit; position = a.position; commands = a.commands; records = a.records; words = a.words }

abbrev pub session_with : SessionNumbers → SessionAnswer
session_with s = record { answer = answer_with s.answer; lists = s.lists }

abbrev pub scene_with : SceneNumbers → SceneAnswer
scene_with a = record { verdict = a.verdict; start = a.start; length = a.length }

abbrev pub book_with : BookNumbers → BookAnswer
book_with a = record { verdict = a.verdict; words = a.words }
