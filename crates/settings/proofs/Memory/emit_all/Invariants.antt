use mathlib.Core.Path.{◌≡◌}
use lib.ListN.{length}
use Rattle.settings.specs.Numbers.{numbers}
use Rattle.settings.specs.Output.{put}
use Rattle.settings.specs.Remembered.{latest_of, sent_of}
use Rattle.settings.proofs.Emitting.{ToEmit}
use Rattle.settings.proofs.Memory.emit_all.Given as goal

abbrev pub invariant-loop-left : goal.invariant-loop-left
invariant-loop-left g l = record {
  emits : ToEmit g.row.MORE g.row.FIRST l.list l.image (latest_of l.initial.self) l.set (put l.n (sent_of l.initial.self) l.initial.out) l.left (put l.m (sent_of l.self) l.out);
  latest : latest_of l.self ≡ latest_of l.initial.self;
}

abbrev pub decreases-loop-left : goal.decreases-loop-left
decreases-loop-left g l = length (numbers 64 g.row.FIRST l.left)
