use Rattle.std.proofs.Common.{◌-◌, length, sym, subst}
use Rattle.edit_rules.specs.Plans.{Plan}
use Rattle.lefdef_tokens.specs.Views.{pieces_of, words_of}
use Rattle.def_splice.specs.SpliceViews.{FollowsAll}
use Rattle.def_splice.specs.WiringPlanViews.{unroute_so}
use Rattle.def_splice.proofs.WiringPlans.{unroute_moved}
use Rattle.def_splice.proofs.wiring.unrouted_in_text.Goals as goal

pub returns-clause-gives : goal.returns-clause-gives
returns-clause-gives g c = λ text fits lies.
    subst (λ (q : Plan). FollowsAll {A = g.row.A.Denot} text q c.in_text.result) (sym (unroute_moved c.args.entry.at (pieces_of c.args.entry.tokens) (length (words_of c.args.entry.tokens) - g.C.WiringClauses.tokens c.args.clauses) (g.C.WiringClauses.left c.args.clauses))) (c.in_text.ensures.follows text (unroute_so (pieces_of c.args.entry.tokens) (length (words_of c.args.entry.tokens) - g.C.WiringClauses.tokens c.args.clauses) (g.C.WiringClauses.left c.args.clauses)) fits lies c.entry_unrouted-splice.ensures.firm c.entry_unrouted-splice.ensures.gives)
