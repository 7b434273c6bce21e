use Rattle.std.proofs.Common.{length, Option, Result, subst}
use Rattle.std.specs.Prelude.{IfOk, IfSome}
use Rattle.edit_model.specs.declared.edit.EditRefusal.{EditRefusal}
use Rattle.edit_model.specs.declared.edit.Splice.{Splice}
use Rattle.def_splice.specs.Lying.{AreFirm}
use Rattle.def_splice.specs.SpliceViews.{IsWithin, MakesOne, cut_view}
use Rattle.def_splice.proofs.LyingLemmas.{follows_none, follows_one, follows_refused}
use Rattle.def_splice.proofs.lying.in_text.Goals as goal

pub returns-in-Ok-Some-clause-follows : goal.returns-in-Ok-Some-clause-follows
returns-in-Ok-Some-clause-follows g c = λ text plan fits lies firm one.
    let part = c.args.statement.tokens.text.now in
    let made = subst (λ (r : Result (Option (Splice g.row.A.Denot)) EditRefusal). MakesOne part plan r) c.in-Ok-Some.is one in
    let firmly = subst (λ (r : Result (Option (Splice g.row.A.Denot)) EditRefusal). IfOk r (λ o. AreFirm plan.changes)) c.in-Ok-Some.is firm in
    let within = subst (λ (r : Result (Option (Splice g.row.A.Denot)) EditRefusal). IfOk r (λ o. IfSome o (IsWithin (length part)))) c.in-Ok-Some.is c.requires.within in
    let low = rw c.in-Ok-Some.field-0-is at within in
    let cuts = rw c.in-Ok-Some.field-0-is at made.1 in
    follows_one text part c.args.statement.at lies plan c.in-Ok-Some.splice c.one_splice.result (cut_view c.moved.result) made.0 firmly low.1 cuts c.moved.ensures.cut (c.one_splice.ensures.cuts text fits)

pub returns-in-Ok-None-clause-follows : goal.returns-in-Ok-None-clause-follows
returns-in-Ok-None-clause-follows g c = λ text plan fits lies firm one.
    let part = c.args.statement.tokens.text.now in
    let made = subst (λ (r : Result (Option (Splice g.row.A.Denot)) EditRefusal). MakesOne part plan r) c.in-Ok-None.is one in
    let none = rw c.in-Ok-None.field-0-is at made.1 in
    rw c.new.ensures (follows_none text part c.args.statement.at lies plan g.row.A.Denot made.0 (rw fits c.requires.fits) none)

pub returns-in-Err-clause-follows : goal.returns-in-Err-clause-follows
returns-in-Err-clause-follows g c = λ text plan fits lies firm one.
    let part = c.args.statement.tokens.text.now in
    let made = subst (λ (r : Result (Option (Splice g.row.A.Denot)) EditRefusal). MakesOne part plan r) c.in-Err.is one in
    follows_refused g.row.A.Denot text part c.args.statement.at plan c.in-Err.refusal made
