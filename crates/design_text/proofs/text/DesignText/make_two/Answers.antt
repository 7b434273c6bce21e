use Rattle.std.proofs.Common.{◌∙◌, [], ◌∷◌, Err, ap, sym, subst}
use Rattle.std.specs.Prelude.{IsOk}
use Rattle.statement_model.specs.Cuts.{with_cuts}
use Rattle.def_grammar.specs.Records.{read_def}
use Rattle.text_pieces.specs.Covering.{cut_of}
use Rattle.design_text.specs.DesignTexts.{text_of}
use Rattle.design_text.specs.Exchanges.{records_in}
use Rattle.design_text.specs.Steps.{PreparesCuts}
use Rattle.design_text.proofs.KeptExchanges.{two_exchanges}
use Rattle.design_text.proofs.FewMade.{not_made_two, only_memory, two_few}
use Rattle.design_text.proofs.StepLemmas.{always_err, always_ok}
use Rattle.design_text.proofs.TwoCuts.{both_made, first_in_order, last_in_order}
use Rattle.design_text.proofs.text.DesignText.make_two.Goals as goal

pub returns-in-Err-clause-makes : goal.returns-in-Err-clause-makes
returns-in-Err-clause-makes g c =
    let t = text_of c.args.self.now in
    let f = cut_of c.args.first in
    let l = cut_of c.args.last in
    not_made_two t _ f l c.in-Err.error c.not_made.result c.not_made.ensures (c.let_go_unused.ensures.text ∙ c.prepare.ensures.still)
    (λ one both. only_memory t (l ∷ []) c.in-Err.error _ (last_in_order t f l c.requires) c.in-Err.ensures.prepares one)

pub returns-in-Ok-prepare-clause-makes : goal.returns-in-Ok-prepare-clause-makes
returns-in-Ok-prepare-clause-makes g c =
    let t = text_of c.args.self.now in
    let f = cut_of c.args.first in
    let l = cut_of c.args.last in (
      c.commit-in-Ok-prepare.ensures.made (with_cuts (f ∷ []) (text_of c.commit.new.self)) c.in-Ok-prepare.ensures.prepares
          ∙ ap (with_cuts (f ∷ [])) (c.commit.ensures.made (with_cuts (l ∷ []) t) c.in-Ok.ensures.prepares)
          ∙ both_made t f l c.requires,
      c.in-Ok.ensures.prepares.reads,
    )

pub returns-in-Ok-prepare-clause-few : goal.returns-in-Ok-prepare-clause-few
returns-in-Ok-prepare-clause-few g c =
    let t = text_of c.args.self.now in
    let f = cut_of c.args.first in
    let l = cut_of c.args.last in
    two_few t _ f l _ _ _ _ _ (c.commit.ensures.made (with_cuts (l ∷ []) t) c.in-Ok.ensures.prepares) c.in-Ok.ensures.few c.in-Ok-prepare.ensures.few c.reads-last_reads.ensures c.reads-first_reads.ensures c.saturating_add-reads.ensures

pub commit-requires-in-Err-prepare : goal.commit-requires-in-Err-prepare
commit-requires-in-Err-prepare g c = (text_of c.prepare.new.self, c.prepare-2.ensures.lasts _ _ c.commit.ensures.back)

pub returns-in-Err-prepare-clause-makes : goal.returns-in-Err-prepare-clause-makes
returns-in-Err-prepare-clause-makes g c =
    let t = text_of c.args.self.now in
    let f = cut_of c.args.first in
    let l = cut_of c.args.last in
    let made = c.commit.ensures.made (with_cuts (l ∷ []) t) c.in-Ok.ensures.prepares in
    let why = subst (λ u. PreparesCuts u (f ∷ []) (Err c.in-Err-prepare.error) c.prepare-2.new.self) made c.in-Err-prepare.ensures.prepares in
    let same = c.let_go_unused-in-Err-prepare.ensures.text ∙ c.let_go_of.ensures.text ∙ c.commit-in-Err-prepare.ensures.made (text_of c.prepare.new.self) (c.prepare-2.ensures.lasts _ _ c.commit.ensures.back) ∙ c.prepare.ensures.still in
    not_made_two t _ f l c.in-Err-prepare.error c.not_made-in-Err-prepare.result c.not_made-in-Err-prepare.ensures same
    (λ one both. only_memory (with_cuts (l ∷ []) t) (f ∷ []) c.in-Err-prepare.error _ (first_in_order t f l c.requires) why (subst (λ u. IsOk (read_def u)) (sym (both_made t f l c.requires)) both))

pub returns-in-Err-prepare-clause-same : goal.returns-in-Err-prepare-clause-same
returns-in-Err-prepare-clause-same g c =
    always_ok _ c.not_made-in-Err-prepare.result
    (c.let_go_unused-in-Err-prepare.ensures.records ∙ c.let_go_of.ensures.records ∙ c.commit-in-Err-prepare.ensures.made_too (records_in c.prepare.new.self) (c.prepare-2.ensures.lasts_too _ _ c.commit.ensures.back_too) ∙ c.prepare.ensures.records)

pub returns-in-Err-prepare-clause-refused : goal.returns-in-Err-prepare-clause-refused
returns-in-Err-prepare-clause-refused g c =
    always_err _ c.not_made-in-Err-prepare.result
    (c.let_go_unused-in-Err-prepare.ensures.records ∙ c.let_go_of.ensures.records ∙ c.commit-in-Err-prepare.ensures.made_too (records_in c.prepare.new.self) (c.prepare-2.ensures.lasts_too _ _ c.commit.ensures.back_too) ∙ c.prepare.ensures.records)

pub returns-in-Ok-prepare-clause-exchanged : goal.returns-in-Ok-prepare-clause-exchanged
returns-in-Ok-prepare-clause-exchanged g c =
    two_exchanges _ _ _ _ _ _ _ _ _ _ c.prepare.ensures.records c.prepare-2.ensures.records c.prepare-2.ensures.kept c.commit-in-Ok-prepare.ensures.kept c.commit.ensures.exchanged c.commit-in-Ok-prepare.ensures.exchanged
