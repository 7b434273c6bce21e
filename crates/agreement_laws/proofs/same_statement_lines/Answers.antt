use Rattle.std.proofs.Common.{ℕ, List, [], ◌++◌, ap₂}
use Rattle.entry_rules.specs.Unchecked.{unchecked_lines_of}
use Rattle.entry_rules.specs.Unknown.{known_by}
use Rattle.entry_rules.specs.ViaLayers.{via_layers}
use Rattle.agreement_laws.proofs.NameLemmas.{same_unknown}
use Rattle.agreement_laws.proofs.ViaLemmas.{same_off_layer}
use Rattle.agreement_laws.proofs.same_statement_lines.Goals as goal

pub returns : goal.returns
returns c = λ library design other r names vias.
    ap₂ (λ (l m : List (List ℕ)). l ++ (m ++ (unchecked_lines_of r ++ []))) (same_unknown (known_by library design) (known_by library other) r names)
    (same_off_layer (via_layers library design) (via_layers library other) r vias)
