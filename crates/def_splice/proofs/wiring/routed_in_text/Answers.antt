use Rattle.std.proofs.Common.{◌-◌, length}
use Rattle.lefdef_tokens.specs.Views.{pieces_of, words_of}
use Rattle.net_wiring.specs.WiringViews.{is_said, reads_wiring}
use Rattle.def_splice.specs.WiringPlanViews.{route_so}
use Rattle.def_splice.proofs.wiring.routed_in_text.Goals as goal

pub returns-clause-gives : goal.returns-clause-gives
returns-clause-gives g c = λ text fits lies.
    c.in_text.ensures.follows text (route_so (pieces_of c.args.entry.tokens) (length (words_of c.args.entry.tokens) - g.C.WiringClauses.tokens c.args.clauses) c.args.wiring.now (g.C.WiringClauses.left c.args.clauses) (is_said (reads_wiring c.args.section) c.args.wiring.now)) fits lies c.entry_routed-splice.ensures.firm c.entry_routed-splice.ensures.gives
