-- What a command leaves in the image (document 01, "What a command leaves").
use Rattle.std.specs.Prelude.{ℕ, suc, ◌+◌, ◌≤◌, ◌<◌, ◌≡◌, ◌⊎◌, List, [], ◌∷◌, length, set}
use Rattle.std.proofs.lemmas.List.Edits.{sets}
use Rattle.rules.specs.Table.{Kind, setting, plain, keeps, begins}
use Rattle.rules.specs.Command.{Command}

-- the image after a command of a kind, with its id, its header and its other words
abbrev pub leave : Kind → ℕ → ℕ → List ℕ → List ℕ → List ℕ
-- "A setting of one word puts its header in the image word of its id. A setting of four words puts the header in word
-- id and the rest in id+1 to id+3."
leave setting id h rest image = sets image id (h ∷ rest)
-- "Commands 00, 01, 40 and 48 put nothing in the image."
leave plain id h rest image = image
-- "Commands 05 and 20 to 25 put their header in the word of their id."
leave keeps id h rest image = set image id h
-- "Any BEGIN puts its header in word 08."
leave begins id h rest image = set image 0x08 h

abbrev pub apply : Command → List ℕ → List ℕ
apply c image = leave c.row.kind c.row.id c.header c.rest image

-- the image after the last of some commands
abbrev pub final : List ℕ → List Command → List ℕ
final image [] = image
final image (c ∷ cs) = final (apply c image) cs

-- a command of a kind does not set image word k
abbrev pub UnsetBy : Kind → ℕ → List ℕ → ℕ → Type 0
UnsetBy setting id rest k = (k < id) ⊎ (id + suc (length rest) ≤ k)
UnsetBy plain id rest k = Unit {0}
UnsetBy keeps id rest k = k ≡ id → ⊥
UnsetBy begins id rest k = k ≡ 0x08 → ⊥

-- no command of some does ("each image word that no command sets")
abbrev pub Unset : List Command → ℕ → Type 0
Unset [] k = Unit {0}
Unset (c ∷ cs) k = UnsetBy c.row.kind c.row.id c.rest k × Unset cs k
