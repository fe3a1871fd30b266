-- Several lists in one call, over one image and one record buffer (document 02, Ticket 5).
use Rattle.std.specs.Prelude.{ℕ, ◌+◌, ◌*◌, ◌/◌, ◌≤◌, ◌<◌, ◌≡◌, Bool, cond, ◌||◌, List, [], ◌∷◌, ◌++◌, eqb, leb, ltb, length, get_or, take, drop}
use Rattle.rules.specs.Verdict.{Answer}
use Rattle.rules.specs.Verdict.{SessionAnswer}
use Rattle.rules.specs.Values.{refusal}
use Rattle.rules.specs.Answer.{Outcome, answer_words, accepted_answer, refuse, reading}

-- what the call returns, and the image and the record buffer after it
pub record SessionOutcome : Type 0 where
  pub session : SessionAnswer
  pub image : List ℕ
  pub buffer : List ℕ

abbrev pub in_session : SessionAnswer → List ℕ → List ℕ → SessionOutcome
in_session s image buffer = record { session = s; image = image; buffer = buffer }

-- before the first pair: accepted, at "0 where .. no list was read"
abbrev pub no_lists : SessionAnswer
no_lists = record { answer = accepted_answer 0 0 0 0; lists = 0 }

abbrev pub opened : List ℕ → List ℕ → SessionOutcome
opened image buffer = record { session = no_lists; image = image; buffer = buffer }

-- The answer with one single call more. "Counts are sums over the lists applied": a refused call's are 0. "the position is the
-- last call's", as the verdict and the bit are, and "the answer says how many" lists stay applied.
abbrev pub added : SessionAnswer → Answer → SessionAnswer
added s a =
    record {
      answer = record {
        verdict = a.verdict;
        position = a.position;
        commands = s.answer.commands + a.commands;
        records = s.answer.records + a.records;
        words = s.answer.words + a.words;
        bit = a.bit;
      };
      lists = s.lists + cond (eqb a.verdict 0) 1 0;
    }

-- "the record room still left"
abbrev pub left : SessionOutcome → List ℕ
left s = drop s.session.answer.words s.buffer

-- "The answer, image and records equal those of single calls"
abbrev pub joined : SessionOutcome → Outcome → SessionOutcome
joined s o =
    record {
      session = added s.session o.answer;
      image = o.image;
      buffer = take s.session.answer.words s.buffer ++ o.buffer;
    }

-- the list of a pair in a word buffer
abbrev pub part : List ℕ → ℕ → ℕ → List ℕ
part ws start n = take n (drop start ws)

-- "a pair after the 4,096th", behind so many lists, "or outside the buffer (start plus length over its words, ..)"
abbrev pub outside : List ℕ → ℕ → ℕ → ℕ → Bool
outside ws start n lists = leb 4096 lists || ltb (length ws) (start + n)

-- The single call for a pair. 20, "checked when its turn comes and before the list"; else its list, "as a list of its own":
-- so "record positions counted inside each list", and "A surface base may end one list and the next need not open with BEGIN".
unfoldable pub pair_call : List ℕ → ℕ → ℕ → ℕ → List ℕ → List ℕ → Outcome
pair_call ws start n lists image buffer = cond (outside ws start n lists) (refuse (refusal 20 0) image buffer) (reading (part ws start n) image buffer)

-- one pair more: "over one image", "each with the record room still left"
abbrev pub with_pair : List ℕ → ℕ → ℕ → SessionOutcome → SessionOutcome
with_pair ws start n s = joined s (pair_call ws start n s.session.lists s.image (left s))

-- pair k of a table
abbrev pub with_pair_of : List ℕ → List ℕ → ℕ → SessionOutcome → SessionOutcome
with_pair_of ws table k s = with_pair ws (get_or table (2 * k) 0) (get_or table (2 * k + 1) 0) s

-- "The first refused list stops the call; lists before it stay applied"
unfoldable pub turn : List ℕ → ℕ → ℕ → SessionOutcome → SessionOutcome
turn ws start n s = cond (eqb s.session.answer.verdict 0) (with_pair ws start n s) s

-- "Take a table of start and length pairs and read the lists in turn". "An odd last word of the table is ignored".
unfoldable pub read_from : List ℕ → List ℕ → SessionOutcome → SessionOutcome
read_from ws [] s = s
read_from ws (a ∷ []) s = s
read_from ws (start ∷ n ∷ table) s = read_from ws table (turn ws start n s)

-- a word buffer, a table, an image and a record buffer. "a table with no pair is accepted with any image"
unfoldable pub reading_scenes : List ℕ → List ℕ → List ℕ → List ℕ → SessionOutcome
reading_scenes ws table image buffer = read_from ws table (opened image buffer)

-- the numbers of the answer: the lists applied are the seventh
abbrev pub session_words : SessionAnswer → List ℕ
session_words s = answer_words s.answer ++ s.lists ∷ []

-- at most 4,096 lists are applied, each with at most 4,096 commands and as many records, of four words each
pub record Bounded (s : SessionAnswer) : Type 0 where
  pub lists : s.lists ≤ 4096
  pub commands : s.answer.commands ≤ 4096 * s.lists
  pub records : s.answer.records ≤ 4096 * s.lists
  pub words : s.answer.words ≡ 4 * s.answer.records

-- ---- what is said of sessions

-- a single call as a session: its list is applied where it is accepted
abbrev pub as_session : Outcome → SessionOutcome
as_session o = record { session = record { answer = o.answer; lists = cond (eqb o.answer.verdict 0) 1 0 }; image = o.image; buffer = o.buffer }

-- two with the same lists applied: the counts, the image and the buffer
pub record SameApplied (r s : SessionOutcome) : Type 0 where
  pub commands : r.session.answer.commands ≡ s.session.answer.commands
  pub records : r.session.answer.records ≡ s.session.answer.records
  pub words : r.session.answer.words ≡ s.session.answer.words
  pub lists : r.session.lists ≡ s.session.lists
  pub image : r.image ≡ s.image
  pub buffer : r.buffer ≡ s.buffer

module _ (ws table image buffer : List ℕ) where
  -- the session over the first k pairs
  abbrev pub first_pairs : ℕ → SessionOutcome
  first_pairs k = reading_scenes ws (take (2 * k) table) image buffer

  -- and with the call for the next
  abbrev pub next_pair : ℕ → SessionOutcome
  next_pair k = with_pair_of ws table k (first_pairs k)

  -- it ends with pair k, and all before are accepted
  pub record StopsAt (k : ℕ) : Type 0 where
    pub there : k < length table / 2
    pub accepted-before : (first_pairs k).session.answer.verdict ≡ 0
    pub is : reading_scenes ws table image buffer ≡ next_pair k
