use Rattle.std.proofs.Common.{ℕ, List, ap}
use Rattle.lef_grammar.specs.Definitions.{Rule, RuleLayer}
use Rattle.cell_library.specs.Records.{records_view}
use Rattle.cell_library.proofs.InnerLemmas.{inner_exact}
use Rattle.cell_library.proofs.rule.RuleDefinition.read.Goals as goal

abbrev with_layers : List ℕ → List RuleLayer → Rule
with_layers name layers = record { name = name; layers = layers }

pub returns : goal.returns
returns g c = λ name. rw (inner_exact (records_view c.args.inner.now) c.requires) (ap (λ (layers : List RuleLayer). with_layers name layers) c.in_ok-read_all.ensures)
