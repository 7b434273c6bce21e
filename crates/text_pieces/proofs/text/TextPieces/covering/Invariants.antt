use Rattle.std.proofs.Common.{◌≡◌, ◌≤◌, ◌++◌, length, map, drop}
use Rattle.statement_model.specs.Cuts.{cut_from}
use Rattle.text_pieces.specs.Content.{text_of}
use Rattle.text_pieces.specs.Covering.{AreInOrder, cut_of, last_hi, put_from}
use Rattle.text_pieces.proofs.text.TextPieces.covering.Given as goal

abbrev pub invariant-loop-cut : goal.invariant-loop-cut
invariant-loop-cut g l =
    let text = text_of l.self in
    let left = map cut_of (drop l.cut-index l.cuts) in
    let all = map cut_of l.cuts in
    (l.from ≤ l.at) × (l.at ≤ length text) × (l.put.items ++ cut_from l.at left text ≡ cut_from l.from all text)
    × (AreInOrder l.at left (length text) → AreInOrder l.from all (length text)) × (AreInOrder l.from all (length text) → AreInOrder l.at left (length text))
    × (last_hi l.at left ≡ last_hi l.from all) × (l.put.items ++ put_from l.at left text ≡ put_from l.from all text)
