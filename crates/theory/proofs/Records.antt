-- The records but for their positions are fixed by the work that a list does.
use Prim.Native.Nat.{ℕ, suc, ◌+◌, ◌≤◌}
use mathlib.Core.Path.{◌≡◌, refl, ap, ap₂, sym, ◌∙◌}
use mathlib.Core.Bool.{true, false, cond}
use mathlib.Core.List.{List, [], ◌∷◌, ◌++◌, map}
use native.Mathlib.Omega.{arith}
use lib.Pow.{high, low}
use lib.ListN.{length, get_or, length-map, length-append}
use Rattle.rules.specs.Word.{id_of, header_of}
use Rattle.rules.specs.Table.{is_setting}
use Rattle.rules.specs.Command.{Command, words, words_all}
use Rattle.rules.specs.Image.{apply}
use Rattle.rules.specs.Records.{Record, records, record_words, without_positions}
use Rattle.rules.specs.Effect.{Work, works}
use Rattle.rules.specs.Valid.{AllValid}

-- no more records than commands, and no more commands than words
pub records-few : (p : ℕ) (cs : List Command) → (length (records p cs) ≤ length cs) × (length cs ≤ length (words_all cs))
records-few p [] = (omega arith, omega arith)
records-few p (c ∷ cs) =
    let n : ℕ = suc (length c.rest) in
    let rs : List Record = records (p + n) cs in
    let later = records-few (p + n) cs in (
      (elim (is_setting c.row.kind) as (λ t. length (cond t rs (record { id = c.row.id; position = p; size = n; header = c.header } ∷ rs)) ≤ suc (length cs)) [
        | true ↦ omega arith
        | false ↦ omega arith
      ]),
      omega (arith, length-append c.rest (words_all cs)),
    )

-- a record without its position: id, length, header
pub record Unplaced : Type 0 where
  pub id : ℕ
  pub size : ℕ
  pub header : ℕ

abbrev pub unplaced : Record → Unplaced
unplaced r = record { id = r.id; size = r.size; header = r.header }

abbrev work_record : Work → Unplaced
work_record w = record { id = id_of (get_or w.said 0 0); size = length w.said; header = header_of (get_or w.said 0 0) }

pub records-works : (p : ℕ) (im : List ℕ) (cs : List Command) → AllValid cs → map unplaced (records p cs) ≡ map work_record (works im cs)
records-works p im [] v = refl
records-works p im (c ∷ cs) v =
    let n : ℕ = suc (length c.rest) in
    let ih = records-works (p + n) (apply c im) cs v.1 in
    (elim (is_setting c.row.kind) as (λ t. map unplaced (cond t (records (p + n) cs)
    (record { id = c.row.id; position = p; size = n; header = c.header } ∷ records (p + n) cs))
    ≡ map work_record (cond t (works (apply c im) cs) (record { said = words c; met = im } ∷ works (apply c im) cs))) [
      | true ↦ ih
      | false ↦ ap₂ {C = List Unplaced} (λ r rs. r ∷ rs)
          (ap₂ {C = Unplaced} (λ i h. record { id = i; size = n; header = h }) (sym (high c.row.id 24 v.0.small)) (sym (low c.row.id 24 v.0.small))) ih
    ])

-- as many records as work commands
pub records-count : (p q : ℕ) (im jm : List ℕ) (cs ds : List Command) → AllValid cs → AllValid ds → works im cs ≡ works jm ds
    → length (records p cs) ≡ length (records q ds)
records-count p q im jm cs ds v u e =
    sym (length-map (records p cs) unplaced) ∙ ap length (records-works p im cs v ∙ ap (map work_record) e ∙ sym (records-works q jm ds u))
    ∙ length-map (records q ds) unplaced

unplaced_words : List Unplaced → List ℕ
unplaced_words [] = []
unplaced_words (r ∷ rs) = r.id ∷ r.size ∷ r.header ∷ unplaced_words rs

words_unplaced : (rs : List Record) → without_positions (record_words rs) ≡ unplaced_words (map unplaced rs)
unfolding unplaced_words
words_unplaced [] = refl
words_unplaced (r ∷ rs) = ap {B = List ℕ} (λ l. r.id ∷ r.size ∷ r.header ∷ l) (words_unplaced rs)

-- the same work gives the same records but for the positions
pub records-same : (p q : ℕ) (im jm : List ℕ) (cs ds : List Command) → AllValid cs → AllValid ds → works im cs ≡ works jm ds
    → without_positions (record_words (records p cs)) ≡ without_positions (record_words (records q ds))
records-same p q im jm cs ds v u e =
    words_unplaced (records p cs)
    ∙ ap unplaced_words (records-works p im cs v ∙ ap (map work_record) e ∙ sym (records-works q jm ds u))
    ∙ sym (words_unplaced (records q ds))

-- ---- lists of commands, one after the other

pub records_append : (p : ℕ) (a b : List Command) → records p (a ++ b) ≡ records p a ++ records (p + length (words_all a)) b
records_append p [] b = ap (λ (q : ℕ). records q b) (omega arith)
records_append p (c ∷ a) b =
    let n : ℕ = suc (length c.rest) in
    let q : p + n + length (words_all a) ≡ p + length (words_all (c ∷ a)) = omega (arith, length-append c.rest (words_all a)) in
    let ih : records (p + n) (a ++ b) ≡ records (p + n) a ++ records (p + length (words_all (c ∷ a))) b =
    records_append (p + n) a b ∙ ap (λ (k : ℕ). records (p + n) a ++ records k b) q in
    elim (is_setting c.row.kind) as (λ t.
    cond t (records (p + n) (a ++ b)) (record { id = c.row.id; position = p; size = n; header = c.header } ∷ records (p + n) (a ++ b))
    ≡ cond t (records (p + n) a) (record { id = c.row.id; position = p; size = n; header = c.header } ∷ records (p + n) a) ++ records (p + length (words_all (c ∷ a))) b) [
      | true ↦ ih
      | false ↦ ap (λ (l : List Record). record { id = c.row.id; position = p; size = n; header = c.header } ∷ l) ih
    ]

pub record_words_append : (a b : List Record) → record_words (a ++ b) ≡ record_words a ++ record_words b
record_words_append [] b = refl
record_words_append (r ∷ a) b = ap {B = List ℕ} (λ l. r.id ∷ r.position ∷ r.size ∷ r.header ∷ l) (record_words_append a b)
