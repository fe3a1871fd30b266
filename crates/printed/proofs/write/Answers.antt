-- The listing stands in front in the text's buffer, which has room for all of it.
use Rattle.std.proofs.Common.{◌≡◌, ℕ, ◌≤◌, List, length, take, replicate, ap, subst, sym, ◌∙◌, arith}
use Rattle.std.proofs.lemmas.List.{length-replicate}
use Rattle.std.proofs.Math.Seq.{sets-eq, take_at}
use Rattle.std.specs.Prelude.{OnOk}
use Rattle.std.specs.Io.KnownBytes.{Appends}
use Rattle.report.specs.Listing.{read_bytes, text_of, printing, printed}
use Rattle.printed.proofs.write.Goals as goal

front : (input image records text₀ : List ℕ) {n : ℕ} {i r text : List ℕ} → printing n i r text ≡ printed input image records text₀ → n ≤ length text₀
    → take n text ≡ text_of (read_bytes input image records)
unfolding printed
front input image records text₀ {n} {i} {r} {text} e room =
    let listed : List ℕ = text_of (read_bytes input image records) in
    let size : n ≡ length listed = ap (λ p. p.size) e in
    ap (take n) (ap (λ p. p.text) e ∙ sets-eq listed text₀ 0 (omega arith)) ∙ take_at listed _ n (sym size)

pub returns : goal.returns
returns g c = subst (λ bs. OnOk c.write_all.result (Appends (g.W.Write.contents c.args.out.now) (g.W.Write.contents c.write_all.new.self) bs))
    (front c.args.input.now (replicate 256 0) (replicate 16384 0) (replicate 82003 0) c.listing-size.ensures.text_value (omega (arith, c.listing-size.ensures.upper_bound, length-replicate {A = ℕ} 82003 0)))
    c.write_all.ensures.bytes
