use Prim.Native.Nat.{◌+◌, ◌/◌, ◌%◌}
use mathlib.Core.Path.{refl}
use Rattle.std.proofs.lemmas.List.{map-set}
use Rattle.settings.proofs.Numbers.{bit_of}
use Rattle.draft.proofs.Taking.{sent-kept}
use Rattle.draft.proofs.Draft.take_setting.Goals as goal

pub returns : goal.returns
returns c = λ out.
    let k = c.args.id / 4 + c.args.id % 2 in
    rw (bit_of k c.requires.2, sent-kept c.args.memory.now.places k c.args.self.now.at, map-set) refl
