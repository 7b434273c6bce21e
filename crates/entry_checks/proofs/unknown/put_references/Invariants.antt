use Rattle.std.proofs.Common.{◌≡◌, ◌++◌, drop}
use Rattle.entry_rules.specs.Unknown.{reference_lines}
use Rattle.entry_references.specs.ReferenceViews.{references_view}
use Rattle.entry_checks.specs.Definitions.{known_in}
use Rattle.entry_checks.specs.Views.{AreSeen}
use Rattle.entry_checks.proofs.unknown.put_references.Given as goal

abbrev pub invariant-loop-reference : goal.invariant-loop-reference
invariant-loop-reference g l = record {
  put :
      l.lines ++ reference_lines (known_in (g.K.Known.defined l.known)) l.section l.entry (references_view (drop l.reference-index l.references))
      ≡ l.fn.lines ++ reference_lines (known_in (g.K.Known.defined l.known)) l.section l.entry (references_view l.references);
  seen : AreSeen (known_in (g.K.Known.defined l.known)) l.seen;
}
