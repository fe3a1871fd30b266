-- What is asked of an id, for every id: an unknown one is no BEGIN, no setting and no group, and leaves nothing.
use Rattle.std.specs.Prelude.{ℕ, zero, suc, ◌+◌, ◌*◌, ◌/◌, ◌%◌, ◌^◌, Bool, true, false, cond, not, ◌&&◌, eqb, length}
use Rattle.std.proofs.Math.Option.{Option, none, some}
use Rattle.rules.specs.Table.{Kind, setting, plain, keeps, begins, Row, row_of, is_setting, is_begin}

abbrev pub of_row : (Row → Bool) → Option Row → Bool
of_row p none = false
of_row p (some r) = p r

unfoldable pub begin_id : ℕ → Bool
begin_id id = of_row (λ r. is_begin r.kind) (row_of id)

unfoldable pub setting_id : ℕ → Bool
setting_id id = of_row (λ r. is_setting r.kind) (row_of id)

-- a work command that leaves its header in the image
abbrev pub keeps_header : Kind → Bool
keeps_header setting = false
keeps_header plain = false
keeps_header keeps = true
keeps_header begins = true

unfoldable pub kept_id : ℕ → Bool
kept_id id = of_row (λ r. keeps_header r.kind) (row_of id)

-- a command of four words of its own
abbrev pub is_group : Row → Bool
is_group r = not (eqb (length r.more) 0)

unfoldable pub group_id : ℕ → Bool
group_id id = of_row is_group (row_of id)

-- the kinds of the settings' set: none 0, a setting of one word 1, one of four 2
unfoldable pub setting_kind : ℕ → ℕ
unfolding setting_id group_id
setting_kind id = cond (setting_id id) (cond (group_id id) 2 1) 0

-- ---- sets as the bits of a number

abbrev pub holds : ℕ → ℕ → Bool
holds set n = eqb (set / 2 ^ n % 2) 1

-- bit n is id 4n
abbrev pub in_set : ℕ → ℕ → Bool
in_set set id = eqb (id % 4) 0 && holds set (id / 4)

-- the numbers of which a test holds, n of them from i on
abbrev set_from : ℕ → ℕ → (ℕ → Bool) → ℕ
set_from zero i p = 0
set_from (suc n) i p = cond (p i) 1 0 + 2 * set_from n (suc i) p

unfoldable pub group_settings : ℕ
unfolding setting_kind
group_settings = set_from 64 0 (λ n. eqb (setting_kind (4 * n)) 2)

unfoldable pub groups : ℕ
unfolding group_id
groups = set_from 64 0 (λ n. group_id (4 * n))

unfoldable pub kept_ids : ℕ
unfolding kept_id
kept_ids = set_from 64 0 kept_id
