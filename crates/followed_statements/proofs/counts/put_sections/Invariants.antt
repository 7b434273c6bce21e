use Rattle.std.proofs.Common.{◌≡◌, ◌++◌, drop, flat_map}
use Rattle.count_laws.specs.Counts.{section_lines}
use Rattle.design_text.specs.DesignTexts.{design_of}
use Rattle.followed_statements.proofs.counts.put_sections.Given as goal

abbrev pub invariant-loop-section : goal.invariant-loop-section
invariant-loop-section g l =
    l.lines ++ flat_map (section_lines (design_of l.text)) (drop l.section-index l.sections) ≡ l.fn.lines ++ flat_map (section_lines (design_of l.text)) l.sections
