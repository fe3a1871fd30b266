-- What the exported functions give back.
use Rattle.std.specs.Prelude.{ℕ, List}
use Rattle.std.proofs.lemmas.List.Edits.{sets}
use Rattle.rules.specs.Verdict.{Answer}
use Rattle.rules.specs.Answer.{Outcome, answer_words}
use Rattle.rules.specs.Session.{SessionOutcome, session_words, reading_scenes}
use Rattle.rules.specs.Verdict.{SceneAnswer}
use Rattle.rules.specs.Book.{BookOutcome, place_words, book_answer_words}

-- what a call returns, and the lent words after it
pub record CallResult : Type 0 where
  pub verdict : ℕ
  pub image : List ℕ
  pub buffer : List ℕ
  pub answer : List ℕ

abbrev pub call : ℕ → List ℕ → List ℕ → List ℕ → CallResult
call verdict image buffer answer = record { verdict = verdict; image = image; buffer = buffer; answer = answer }

-- the verdict is returned, and the answer's words get the six numbers, as many as there are words
abbrev pub result_of : Outcome → List ℕ → CallResult
result_of o answer = call o.answer.verdict o.image o.buffer (sets answer 0 (answer_words o.answer))

-- the same of a session, with its seven numbers
abbrev pub session_result : SessionOutcome → List ℕ → CallResult
session_result o answer = call o.session.answer.verdict o.image o.buffer (sets answer 0 (session_words o.session))

abbrev pub scenes_read : List ℕ → List ℕ → List ℕ → List ℕ → List ℕ → CallResult
scenes_read ws table image records answer = session_result (reading_scenes ws table image records) answer

-- the same of a call that has nothing else to write
pub record AnswerResult : Type 0 where
  pub verdict : ℕ
  pub answer : List ℕ

abbrev pub answered : ℕ → List ℕ → AnswerResult
answered verdict answer = record { verdict = verdict; answer = answer }

abbrev pub answer_result : Answer → List ℕ → AnswerResult
answer_result a answer = answered a.verdict (sets answer 0 (answer_words a))

-- the same of a scene asked for: its start and its length go to the place's words
abbrev pub place_result : SceneAnswer → List ℕ → AnswerResult
place_result a place = answered a.verdict (sets place 0 (place_words a))

-- of a book written, with the answer's two numbers
pub record BookResult : Type 0 where
  pub verdict : ℕ
  pub book : List ℕ
  pub answer : List ℕ

abbrev pub written : ℕ → List ℕ → List ℕ → BookResult
written verdict book answer = record { verdict = verdict; book = book; answer = answer }

abbrev pub book_result : BookOutcome → List ℕ → BookResult
book_result o answer = written o.answer.verdict o.buffer (sets answer 0 (book_answer_words o.answer))
