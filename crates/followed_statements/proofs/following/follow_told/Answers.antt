use Rattle.std.proofs.Common.{List, ℕ, subst, sym}
use Rattle.std.specs.Prelude.{IfOk, IfSome, Option}
use Rattle.std.specs.Option.{option_map}
use Rattle.staying_laws.specs.Staying.{lines_on_statements}
use Rattle.design_text.specs.DesignTexts.{design_of}
use Rattle.design_text.specs.Exchanges.{records_in}
use Rattle.followed_statements.specs.Following.{AreKeptBy, lines_by, said}
use Rattle.followed_statements.specs.Seen.{ShowAllBut}
use Rattle.followed_statements.specs.Telling.{AreToldLines}
use Rattle.followed_statements.proofs.TellLemmas.{told_follow}
use Rattle.followed_statements.proofs.following.follow_told.Goals as goal

pub follow_same-requires : goal.follow_same-requires
follow_same-requires g c = (c.requires.0, c.requires.1, c.requires.3)

pub followed-requires : goal.followed-requires
followed-requires g c =
    let r = c.requires in
    let library = c.args.library.now in
    let old = said r.0 in
    let new = design_of c.args.text.now in
    let component = option_map (λ x. x.now) c.name_in-component.result in
    let shows = subst (λ design. ShowAllBut component old design) c.statements_are_kept.ensures.said (c.in_ok-shows_all_but.ensures r.0 r.1 c.if-not-branch.false) in
    let went : AreToldLines library old component c.args.told.lines = subst (λ (o : Option (List ℕ)). AreToldLines library old o c.args.told.lines) (sym c.name_in-component.ensures) r.2 in
    let came : AreToldLines library new component c.in-Some.lines = rw (c.in-Some.is) at (c.in_ok-lines.ensures) in (
      lines_on_statements library old,
      lines_by library new old,
      r.3,
      told_follow c.same_shown_same_lines.ensures c.lines_follow_one_name.ensures library old new component c.args.told.lines c.in-Some.lines shows went came,
    )

pub follow_exchanges-requires : goal.follow_exchanges-requires
follow_exchanges-requires g c =
    let r = c.requires in
    let library = c.args.library.now in
    let old = said r.0 in
    let new = design_of c.args.text.now in
    let component = option_map (λ x. x.now) c.name_in-component.result in
    let shows = subst (λ design. ShowAllBut component old design) c.statements_are_kept.ensures.said (c.in_ok-shows_all_but.ensures r.0 r.1 c.if-not-branch.false) in
    let went : AreToldLines library old component c.args.told.lines = subst (λ (o : Option (List ℕ)). AreToldLines library old o c.args.told.lines) (sym c.name_in-component.ensures) r.2 in
    let came : AreToldLines library new component c.in-Some.lines = rw (c.in-Some.is) at (c.in_ok-lines.ensures) in
    let follow = told_follow c.same_shown_same_lines.ensures c.lines_follow_one_name.ensures library old new component c.args.told.lines c.in-Some.lines shows went came in
    (r.0, r.1, rw (c.in-Some-2.is) at (c.in_ok-kept.ensures (lines_on_statements library old) (lines_by library new old) r.3 follow))

pub returns : goal.returns
returns g c = λ old made told are.
    let some = said (records_in c.args.text.now) in
    subst (λ design. IfOk c.follow_exchanges.result (λ found. IfSome found (AreKeptBy c.args.library.now design some))) (sym c.statements_are_kept.ensures.said) c.follow_exchanges.ensures
