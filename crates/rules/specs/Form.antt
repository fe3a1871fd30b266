-- The normal form (document 01, "What a command leaves").
use Rattle.std.specs.Prelude.{ℕ, zero, suc, Bool, true, false, cond, ◌&&◌, List, [], ◌∷◌, ◌++◌, eqb, length, get_or}
use Rattle.rules.specs.Table.{Row, is_setting, size, settings}
use Rattle.rules.specs.Command.{Command}
use Rattle.rules.specs.Image.{apply, final}

-- n words of an image from word i on
abbrev pub read : List ℕ → ℕ → ℕ → List ℕ
read image i zero = []
read image i (suc n) = get_or image i 0 ∷ read image (suc i) n

abbrev pub equal : List ℕ → List ℕ → Bool
equal [] [] = true
equal [] (y ∷ ys) = false
equal (x ∷ xs) [] = false
equal (x ∷ xs) (y ∷ ys) = eqb x y && equal xs ys

-- no image word of the setting differs between two images
abbrev pub same : Row → List ℕ → List ℕ → Bool
same r a b = equal (read a r.id (size r)) (read b r.id (size r))

-- the setting's command "with the list's values"
abbrev pub emit : Row → List ℕ → Command
emit r image = record { row = r; header = get_or image r.id 0; rest = read image (suc r.id) (length r.more) }

-- "one command for each setting of which at least one image word differs between that list's image now and the image
-- that the form has built so far"
abbrev pub differing : List Row → List ℕ → List ℕ → List Command
differing [] built image = []
differing (r ∷ rs) built image =
    let later = differing rs built image in
    cond (same r built image) later (emit r image ∷ later)

-- the rest of the form, where it has built one image and the list another. "before each work command, in rising id,"
-- the differing settings; "then the work command unchanged, payload and all. After the last work command the differing
-- settings follow in the same way."
unfoldable pub form_from : List ℕ → List ℕ → List Command → List Command
form_from built image [] = differing settings built image
form_from built image (c ∷ cs) =
    let unset = form_from built (apply c image) cs in
    let out = differing settings built image in
    let done = out ++ c ∷ form_from (final built (out ++ c ∷ [])) (apply c image) cs in
    cond (is_setting c.row.kind) unset done

-- "The normal form, from a starting image"
abbrev pub form : List ℕ → List Command → List Command
form image cs = form_from image image cs
