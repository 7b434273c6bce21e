use Rattle.std.proofs.Common.{◌≡◌, ◌++◌, drop, flat_map, map}
use Rattle.report_rules.specs.Diagnostics.{statement_lines}
use Rattle.text_pieces.specs.Chunks.{all_ids}
use Rattle.design_text.specs.DesignTexts.{design_of}
use Rattle.design_text.proofs.ChunkWalks.{says}
use Rattle.followed_statements.proofs.lines.put_all_statements.Given as goal

abbrev pub invariant-loop-place : goal.invariant-loop-place
invariant-loop-place g l = record {
  put :
      l.lines ++ flat_map (statement_lines l.fn.library (design_of l.fn.text)) (map (says l.fn.text.pieces.table.slots) (all_ids (drop l.place l.fn.text.pieces.table.chunks)))
      ≡ l.fn.lines ++ flat_map (statement_lines l.fn.library (design_of l.fn.text)) (map (says l.fn.text.pieces.table.slots) (all_ids l.fn.text.pieces.table.chunks));
  library : l.checks.library ≡ l.fn.library;
  design : l.checks.design ≡ design_of l.fn.text;
}
