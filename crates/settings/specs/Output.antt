-- The settings that a form puts out.
use Rattle.std.specs.Prelude.{ℕ, suc, ◌+◌, ◌-◌, ◌/◌, ◌%◌, ◌≤◌, ◌<◌, Bool, cond, List, [], ◌∷◌, eqb, length, get_or, set}
use Rattle.std.proofs.lemmas.List.Edits.{sets}
use Rattle.rules.specs.Word.{id_of, header_of}
use Rattle.rules.specs.Form.{read, equal}
use Rattle.settings.specs.Numbers.{numbers}

-- the most words of a list, and so of its form
abbrev pub longest : ℕ
longest = 4096

-- the words written, where the command stands that was last put out for each setting (its position + 1, or 0), the buffer
pub record Output : Type 0 where
  pub written : ℕ
  pub sent : List ℕ
  pub out : List ℕ

abbrev pub put : ℕ → List ℕ → List ℕ → Output
put n sent out = record { written = n; sent = sent; out = out }

-- A command with a first word and `more` others sets what the form has built: the words of the setting's command last put
-- out, or, where there is none, those of the starting image.
unfoldable pub is_built : ℕ → List ℕ → List ℕ → ℕ → List ℕ → ℕ → Bool
is_built more l image w rest before =
    let start = equal (read image (id_of w) (suc more)) (header_of w ∷ rest) in
    let last = equal (read l (before - 1) (suc more)) (w ∷ rest) in
    cond (eqb before 0) start last

-- one setting, by its number
abbrev pub put_one : ℕ → List ℕ → List ℕ → ℕ → Output → Output
put_one more l latest k o =
    record {
      written = o.written + suc more;
      sent = set o.sent k (get_or latest k 0 + 1);
      out = sets o.out o.written (read l (get_or latest k 0) (suc more));
    }

unfoldable pub emit_one : ℕ → List ℕ → List ℕ → List ℕ → ℕ → Output → Output
emit_one more l image latest k o =
    let at = get_or latest k 0 in
    cond {A = Output} (is_built more l image (get_or l at 0) (read l (suc at) more) (get_or o.sent k 0)) o (put_one more l latest k o)

abbrev pub emit_all : ℕ → List ℕ → List ℕ → List ℕ → List ℕ → Output → Output
emit_all more l image latest [] o = o
emit_all more l image latest (k ∷ ks) o = emit_all more l image latest ks (emit_one more l image latest k o)

-- the numbers in a set of the settings of one word, and of those of four
abbrev pub singles_in : ℕ → List ℕ
singles_in changed = numbers 64 0 (changed % 65536)

abbrev pub groups_in : ℕ → List ℕ
groups_in changed = numbers 64 16 (changed / 65536)

-- those of a set: first the settings of one word, then those of four
unfoldable pub emit_changed : ℕ → List ℕ → List ℕ → List ℕ → Output → Output
emit_changed changed l image latest o = emit_all 3 l image latest (groups_in changed) (emit_all 0 l image latest (singles_in changed) o)

-- a whole command stands where the setting was last set, and the form has room
pub record CanEmit (more : ℕ) (l image latest : List ℕ) (k : ℕ) (o : Output) : Type 0 where
  pub few : length l ≤ longest
  pub number : k < 64
  pub inside : get_or latest k 0 + suc more ≤ length l
  pub in_image : id_of (get_or l (get_or latest k 0) 0) + suc more ≤ length image
  pub sent-inside : get_or o.sent k 0 + more ≤ length l
  pub fits : o.written ≤ longest

abbrev pub CanEmitAll : ℕ → List ℕ → List ℕ → List ℕ → List ℕ → Output → Type 0
CanEmitAll more l image latest [] o = Unit {0}
CanEmitAll more l image latest (k ∷ ks) o =
    CanEmit more l image latest k o × CanEmitAll more l image latest ks (emit_one more l image latest k o)

pub record CanEmitChanged (changed : ℕ) (l image latest : List ℕ) (o : Output) : Type 0 where
  pub singles : CanEmitAll 0 l image latest (singles_in changed) o
  pub groups : CanEmitAll 3 l image latest (groups_in changed) (emit_all 0 l image latest (singles_in changed) o)
