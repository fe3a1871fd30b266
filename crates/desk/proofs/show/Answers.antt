use native.Mathlib.Omega.{arith}
use mathlib.Core.Path.{refl}
use mathlib.Core.List.{append-nil}
use Rattle.show.specs.Show.{show_text}
use Rattle.desk.specs.Desk.{perform}
use Rattle.desk.proofs.show.Goals as goal

pub returns : goal.returns
unfolding perform
returns c out =
    let a = c.args in
    let p = c.put_show-size.ensures.puts in
    let shown = append-nil (show_text a.list.now a.image.now) in
    record {
      text-is = rw shown p.text-is;
      verdict-size = omega (arith, p.next-is);
      text-size = rw shown (omega (arith, p.next-is));
      out-is = refl;
      unwritten = λ e. refl;
      out-size = refl;
      text-bound = rw shown (omega (arith, p.next-is, c.put_show-size.ensures.upper_bound));
      out-bound = omega arith;
    }
