use Rattle.std.proofs.Common.{◌≡◌, ◌∙◌, map, sym, ap, subst, length}
use Rattle.std.specs.Prelude.{IfOk, ◌≤◌}
use Rattle.splicing_laws.specs.KeepingLaws.{AreInOrder}
use Rattle.text_pieces.specs.Covering.{cut_of}
use Rattle.design_text.specs.DesignTexts.{text_of}
use Rattle.design_text.specs.Editing.{MakesCuts}
use Rattle.design_text.specs.FewReads.{most_reads}
use Rattle.design_text.proofs.text.DesignText.make_splices.Goals as goal

pub make_apart-requires : goal.make_apart-requires
make_apart-requires g c = subst (λ cs. AreInOrder 0 cs (length (text_of c.args.self.now))) (sym (ap (map cut_of) c.deref.ensures.value ∙ c.in-Ok.ensures)) c.requires

pub returns-clause-makes : goal.returns-clause-makes
returns-clause-makes g c =
    subst (λ cs. MakesCuts (text_of c.args.self.now) cs c.make_apart.result (text_of c.make_apart.new.self)) (ap (map cut_of) c.deref.ensures.value ∙ c.in-Ok.ensures) c.make_apart.ensures.makes

pub returns-clause-few : goal.returns-clause-few
returns-clause-few g c =
    subst (λ cs. IfOk c.make_apart.result (λ made. made.reads ≤ most_reads (text_of c.args.self.now) cs)) (ap (map cut_of) c.deref.ensures.value ∙ c.in-Ok.ensures) c.make_apart.ensures.few
