use Rattle.std.proofs.Common.{◌≡◌, ℕ, List, length, drop, map, nat_lt}
use Rattle.edit_rules.specs.Plans.{is_long}
use Rattle.statement_model.specs.Cuts.{cut_from}
use Rattle.def_splice.specs.SpliceViews.{cut_view, made, AreInOrder}
use Rattle.def_splice.proofs.fitting.is_long.Given as goal

abbrev pub invariant-loop-splice : goal.invariant-loop-splice
invariant-loop-splice g l = record {
  so_far : (text : List ℕ) → length text ≡ l.len → nat_lt l.room (length (cut_from l.at (map cut_view (drop l.splice-index l.splices)) text)) ≡ is_long (made l.splices text);
  in_order : AreInOrder l.at (drop l.splice-index l.splices) l.len;
}
