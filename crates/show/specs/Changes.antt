-- The settings that change, by their ids, as the code has them.
use Rattle.std.specs.Prelude.{ℕ, zero, suc, cond, List, [], ◌++◌, eqb}
use Rattle.table.specs.Ids.{setting_kind}
use Rattle.show.specs.Show.{change_line}

-- nothing where the id is no setting's
unfoldable pub id_line : ℕ → List ℕ → List ℕ → List ℕ
id_line id before after = cond (eqb (setting_kind id) 0) [] (change_line id (cond (eqb (setting_kind id) 2) 4 1) before after)

-- of the n ids from one on
unfoldable pub lines_from : ℕ → ℕ → List ℕ → List ℕ → List ℕ
unfolding id_line
lines_from zero id before after = []
lines_from (suc n) id before after = id_line id before after ++ lines_from n (suc id) before after
