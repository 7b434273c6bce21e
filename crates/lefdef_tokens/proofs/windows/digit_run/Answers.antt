use Rattle.std.proofs.Common.{leb, w8, arith, ap, ◌∙◌, ◌≡◌, ◌<◌, ◌+◌, ◌-◌, ◌%◌, replicate, map, get_or, subst, length}
use Rattle.std.specs.Simd.Lanes.{chunk, mask_l, zip2}
use Rattle.std.proofs.lemmas.Simd.{bitmask_splat, length-chunk, length-zip2, zip2_splat, map-map}
use Rattle.lefdef_tokens.proofs.WindowMasks.{first_ones, is_digit}
use Rattle.lefdef_tokens.proofs.windows.digit_run.Goals as goal

pub returns : goal.returns
returns c k below inside =
    let text = c.args.text.now in
    let at = c.args.at in
    let bytes = chunk at 16 text in
    let long = length-chunk at 16 text c.requires in
    let shifted = zip2_splat (λ b d. (b + (256 - d)) % 256) bytes 16 48 long in
    let values = zip2 (λ b d. (b + (256 - d)) % 256) bytes (replicate 16 48) in
    let same : length values ≡ 16 = length-zip2 (λ b d. (b + (256 - d)) % 256) bytes (replicate 16 48) long ∙ long in
    let is = bitmask_splat w8 leb values 16 9 same (omega arith) ∙ ap (λ xs. mask_l (map (λ x. leb x 9) xs)) shifted ∙ ap mask_l (map-map (λ x. leb x 9) (λ b. (b + (256 - 48)) % 256) bytes) in
    is_digit (get_or text (at + k) 0) (c.type_inv.text (at + k)).fits
    (first_ones (λ b. leb ((b + (256 - 48)) % 256) 9) text at _ c.requires is k (subst (λ n. k < n) c.trailing_ones.ensures below) inside)
