-- The parts of a report, by how often each line stands.
use Rattle.std.proofs.Common.{[], ◌++◌, arith}
use Rattle.std.specs.List.{flat_map}
use Rattle.connection_rules.specs.NetLines.{net_lines}
use Rattle.design_rules.specs.Boxes.{scale}
use Rattle.design_rules.specs.CountLines.{count_lines}
use Rattle.design_rules.specs.OverlapLines.{overlap_lines}
use Rattle.design_rules.specs.PlaceLines.{place_lines}
use Rattle.entry_rules.specs.Unchecked.{unchecked_in_library}
use Rattle.line_laws.proofs.PairSums.{times-append}
use Rattle.report_rules.specs.Diagnostics.{statement_lines}
use Rattle.staying_laws.specs.Staying.{PartsAreAll}

pub parts_are_all : PartsAreAll
parts_are_all library design = record {
  often = λ q.
      let c = count_lines design in
      let s = flat_map (statement_lines library design) design in
      let l = unchecked_in_library library in
      let o = overlap_lines library design in
      let p = place_lines library design in
      let n = net_lines library design (scale design) in
      omega (
        arith,
        times-append q (c ++ (s ++ l)) ((o ++ p) ++ n),
        times-append q c (s ++ l),
        times-append q s l,
        times-append q (o ++ p) n,
        times-append q o p,
        times-append q c (s ++ (l ++ (o ++ (p ++ (n ++ []))))),
        times-append q s (l ++ (o ++ (p ++ (n ++ [])))),
        times-append q l (o ++ (p ++ (n ++ []))),
        times-append q o (p ++ (n ++ [])),
        times-append q p (n ++ []),
        times-append q n [],
      );
}
