use Rattle.std.proofs.Common.{subst, sym}
use Rattle.std.specs.Prelude.{IfOk, IfSome}
use Rattle.design_text.specs.Exchanges.{records_in}
use Rattle.followed_statements.specs.Following.{AreKeptBy, said}
use Rattle.followed_statements.proofs.LineLemmas.{kept_by_other}
use Rattle.followed_statements.proofs.following.follow_same.Goals as goal

pub follow_exchanges-requires : goal.follow_exchanges-requires
follow_exchanges-requires g c =
    let r = c.requires in
    let library = c.args.library.now in
    let same = c.in_ok-shows_same.ensures r.0 r.1 c.if-not-branch.false in
    let are = kept_by_other c.same_outline_same_counts.ensures c.same_shown_same_lines.ensures library (said r.0) (said (records_in c.args.text.now)) c.args.kept same r.2 in
    (r.0, r.1, subst (λ design. AreKeptBy library design (said r.0) c.args.kept) c.statements_are_kept.ensures.said are)

pub returns : goal.returns
returns g c = λ old made are.
    let some = said (records_in c.args.text.now) in
    subst (λ design. IfOk c.follow_exchanges.result (λ found. IfSome found (AreKeptBy c.args.library.now design some))) (sym c.statements_are_kept.ensures.said) c.follow_exchanges.ensures
