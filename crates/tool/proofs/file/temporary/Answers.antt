-- The digits and `tmp` take no more than the 104 bytes that are left behind the name.
use Rattle.std.proofs.Common.{◌≡◌, ℕ, ◌<◌, ◌≤◌, List, ◌++◌, [], ◌∷◌, length, take, get_or, refl, sym, codes, arith, rules, length-append, length-take-le}
use Rattle.text.specs.Puts.{Puts}
use Rattle.text.proofs.Parts.{wrote_then, written, puts-length}
use Rattle.format.specs.Format.{formatted}
use Rattle.format.proofs.Lengths.{formatted-length}
use Rattle.tool.proofs.file.temporary.Goals as goal

key : List ℕ → List ℕ
key ds = formatted [] (codes ".%2%2%2%2.tmp") (get_or ds 0 0 ∷ get_or ds 1 0 ∷ get_or ds 2 0 ∷ get_or ds 3 0 ∷ [])

few : (name ds : List ℕ) → length name < 4096 → length (name ++ key ds) ≤ 4200
unfolding key
few name ds h =
    omega (arith, length-append name (key ds), formatted-length [] 0 refl (codes ".%2%2%2%2.tmp") (get_or ds 0 0 ∷ get_or ds 1 0 ∷ get_or ds 2 0 ∷ get_or ds 3 0 ∷ []))

inside : {part path after : List ℕ} {end : ℕ} → length part ≤ length path → Puts part path 0 after end → end ≡ length (take end after)
inside room put = sym (length-take-le _ _ (omega (arith, room, put.next-is, puts-length put)))

pub slice_bounds-result-end : goal.slice_bounds-result-end
unfolding key
slice_bounds-result-end c =
    let room = few c.args.name.now c.fill_bytes.new.buf c.requires.name in
    inside (omega (arith, room, c.requires.room))
    (written (wrote_then c.put_all.ensures c.put_format.ensures) c.new-writer.ensures.position (omega (arith, room)) c.new-writer.ensures.same_text
    (search rules) c.position-end.ensures)
