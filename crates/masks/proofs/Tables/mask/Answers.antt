use Rattle.table.proofs.Tables.{mask_is}
use Rattle.masks.proofs.Tables.mask.Goals as goal

pub returns : goal.returns
returns c = mask_is _ _ _ c.args.self.now.masks_are c.requires.0 c.requires.1
