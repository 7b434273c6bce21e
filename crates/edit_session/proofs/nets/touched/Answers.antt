use Rattle.std.proofs.Common.{rules}
use Rattle.edit_rules.specs.Edits.{change_of}
use Rattle.edit_session.specs.Tests.{subject_of}
use Rattle.edit_session.proofs.nets.touched.Goals as goal

pub returns-in-Design-clause-only : goal.returns-in-Design-clause-only
returns-in-Design-clause-only g c = (subject_of (change_of c.in-Design.edit.now), search rules, c.touched_by_edit.ensures.only)
