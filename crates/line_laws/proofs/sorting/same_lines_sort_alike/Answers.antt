use Rattle.line_laws.proofs.SameLists.{same_lines_sort_alike}
use Rattle.line_laws.proofs.sorting.same_lines_sort_alike.Goals as goal

pub returns : goal.returns
returns c = same_lines_sort_alike
