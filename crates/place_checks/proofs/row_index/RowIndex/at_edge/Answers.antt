use Rattle.std.proofs.Common.{w64, rules}
use Rattle.std.specs.Int.RustNames.{FitsSigned}
use Rattle.std.proofs.lemmas.Cmp.{int_cmp_total}
use Rattle.std.proofs.lemmas.Int.{to_z-of_z}
use Rattle.std.proofs.lemmas.List.Sorted.{searchable_from_sorted}
use Rattle.place_checks.specs.RowEdges.{edge_of}
use Rattle.place_checks.proofs.row_index.RowIndex.at_edge.Goals as goal

pub all_equal-requires : goal.all_equal-requires
all_equal-requires g c =
    let fits : FitsSigned w64 c.args.edge = search rules in
    simp (to_z-of_z, c.deref.ensures.value) (searchable_from_sorted int_cmp_total edge_of c.args.self.now.rows.items c.args.edge c.args.self.now.sorted)
