use Rattle.design_text.specs.Exchanges.{records_in}
use Rattle.followed_places.specs.Places.{said}
use Rattle.followed_statements.specs.Following.{AreOnStatements}
use Rattle.edit_session.proofs.FollowLemmas.{of_some}
use Rattle.edit_session.proofs.statements.follow_known.Goals as goal

pub follow_statements-requires : goal.follow_statements-requires
follow_statements-requires g c =
    let before = records_in c.requires.0 in
    (before, c.requires.1, c.requires.2, of_some (AreOnStatements c.args.library.now (said before)) _ _ c.in_ok-kept.ensures.value c.requires.3.statements)
