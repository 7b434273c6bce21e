use Rattle.std.proofs.Common.{leb, w8, arith}
use Rattle.std.specs.Simd.Lanes.{chunk}
use Rattle.std.proofs.lemmas.Simd.{bitmask_splat, length-chunk}
use Rattle.lefdef_tokens.proofs.WindowMasks.{low_marked}
use Rattle.lefdef_tokens.proofs.windows.low_marks.Goals as goal

pub returns : goal.returns
returns c =
    let text = c.args.text.now in
    let at = c.args.at in
    low_marked text at _ c.requires (bitmask_splat w8 leb (chunk at 32 text) 32 32 (length-chunk at 32 text c.requires) (omega arith))
