-- The rules on values that a group breaks, by command, as the code asks for them: an illegal value in each word, and the
-- first clash. Their first refusal is that of the rules' own faults (proofs/Broken.antt).
use Rattle.std.specs.Prelude.{◌+◌, Option, None, false, not, ◌&&◌, ◌||◌, eqb, ltb}
use Rattle.std.specs.Bool.{then_some}
use Rattle.std.specs.Option.{option_or}
use Rattle.rules.specs.declared.Reason.{Reason}
use Rattle.rules.specs.declared.Reason.TheVariants.{PageMaximum, PageMinimum, RasterBits, FloatBit, PlaneRange}
use Rattle.rules.specs.Word.{bits}
use Rattle.rules.specs.Values.{page_limit}
use Rattle.table.specs.declared.Group.{Group}
use Rattle.values.specs.declared.Faults.{Faults}

-- LOAD_GP. Of an illegal code, which is refused in the first word, the third and fourth words are asked for too.
unfoldable pub load_broken : Group → Faults
load_broken g =
    let code = bits g.header 20 3 in
    let bare = not (eqb code 1) && not (eqb code 2) in
    let range : Option Reason = then_some (eqb code 5 && ltb 8 (bits g.header 10 9 + bits g.header 0 9)) PlaneRange in
    record {
      first = ltb 2 code && not (eqb code 5);
      second = not (eqb code 2) && not (eqb g.second 0);
      third = bare && not (eqb g.third 0);
      fourth = bare && not (eqb g.fourth 0);
      clash = option_or (then_some (not (eqb code 5) && eqb (bits g.header 23 1) 1) FloatBit) range;
    }

unfoldable pub primitive_broken : Group → Faults
primitive_broken g =
    record {
      first = not (eqb g.header 0);
      second = not (eqb g.second 0);
      third = not (eqb g.third 0);
      fourth = not (eqb g.fourth 0);
      clash = None;
    }

unfoldable pub clip_broken : Group → Faults
clip_broken g =
    let bank = bits g.second 28 2 in
    let most = bits g.third 28 4 in
    let least = bits g.third 12 4 in
    let minimum : Option Reason = then_some (not (eqb least 0 || ltb least (most + 1))) PageMinimum in
    record {
      first = false;
      second = eqb bank 3;
      third = false;
      fourth = false;
      clash = option_or (then_some (ltb (page_limit bank) most) PageMaximum) minimum;
    }

unfoldable pub raster_broken : Group → Faults
raster_broken g =
    record {
      first = false;
      second = false;
      third = false;
      fourth = false;
      clash = then_some (eqb (bits g.header 22 1) 0 && eqb (bits g.header 14 1) 1) RasterBits;
    }
