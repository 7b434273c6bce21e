use Rattle.std.proofs.Common.{◌++◌}
use Rattle.design_text.specs.DesignTexts.{design_of}
use Rattle.design_text.specs.Exchanges.{exchange_view}
use Rattle.followed_statements.specs.Following.{lines_by, said}
use Rattle.followed_statements.proofs.ExchangeLemmas.{exchanged, kept}
use Rattle.followed_statements.proofs.LineLemmas.{by_follow}
use Rattle.followed_statements.proofs.following.follow_exchange.Goals as goal

pub followed-requires : goal.followed-requires
followed-requires g c =
    let slots = c.args.text.now.pieces.table.slots in
    let library = c.args.library.now in
    let design = design_of c.args.text.now in
    let x = exchange_view c.args.exchange in
    let r = c.requires in
    let follow = by_follow library design (said r.0) (said r.1) (kept slots x.went) (kept slots x.came) (kept slots r.2.front ++ kept slots r.2.rest) (exchanged slots r.0 r.1 x r.2) in
    (lines_by library design (said r.0), lines_by library design (said r.1), r.3, rw (c.in_ok-out.ensures, c.in_ok-put.ensures) follow)

pub returns : goal.returns
returns g c = λ old new e are.
    let slots = c.args.text.now.pieces.table.slots in
    let library = c.args.library.now in
    let design = design_of c.args.text.now in
    let x = exchange_view c.args.exchange in
    let follow = by_follow library design (said old) (said new) (kept slots x.went) (kept slots x.came) (kept slots e.front ++ kept slots e.rest) (exchanged slots old new x e) in
    c.followed.ensures (lines_by library design (said old)) (lines_by library design (said new)) are (rw (c.in_ok-out.ensures, c.in_ok-put.ensures) follow)
