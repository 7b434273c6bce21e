use Rattle.line_laws.proofs.SortedLines.{sorting_is_by_lines}
use Rattle.line_laws.proofs.sorting.sorting_is_by_lines.Goals as goal

pub returns : goal.returns
returns c = sorting_is_by_lines
