use Rattle.std.proofs.Common.{◌≡◌, ◌≤◌, ◌<◌, ◌-◌, length, take}
use Rattle.rereading.specs.Segments.{bytes_of}
use Rattle.text_pieces.proofs.stretch.touched.Given as goal

abbrev pub invariant-segments : goal.invariant-segments
invariant-segments g l =
    let ss = g.S.Segments.listed l.segments in
    (l.bytes.items ≡ bytes_of (take l.count ss)) × (l.count ≤ length ss) × (1 < l.count → length (bytes_of (take (l.count - 1) ss)) < l.end)

abbrev pub decreases-segments : goal.decreases-segments
decreases-segments g l = length (g.S.Segments.listed l.segments) - l.count
