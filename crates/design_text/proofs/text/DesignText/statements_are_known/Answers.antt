use Rattle.std.proofs.Common.{[], ◌≡◌, ◌∙◌, List, map, sym, subst}
use Rattle.std.specs.List.{zip}
use Rattle.design_model.specs.declared.mode.Mode.TheVariants.{Top}
use Rattle.statement_model.specs.Tokens.{tokens}
use Rattle.def_grammar.specs.Records.{Record, key_of}
use Rattle.design_tables.specs.Listings.{AreTablesOf}
use Rattle.edit_laws.proofs.PlanTexts.{tokens_read}
use Rattle.def_splice.proofs.LocatedStatements.{located_is}
use Rattle.design_text.specs.DesignTexts.{numbers_of, text_of}
use Rattle.design_text.proofs.text.DesignText.statements_are_known.Goals as goal

pub returns : goal.returns
returns g c = λ design reads.
    let content = c.args.self.now in
    let law = c.records_are_read.ensures.located in
    let text = text_of content in
    let fresh = (c.keys_are_apart.ensures Top [] (tokens text) design (tokens_read text design reads)).1 in
    let inv = rw c.self.view_is at c.self.invariant in
    let both = sym inv.reads ∙ reads in
    let same : inv.design ≡ design = cc in
    record {
      located = located_is law text design reads;
      said = law Top text design reads;
      many = rw (← c.self.view_is) c.statements_are_numbered.ensures.all;
      once = rw (← c.self.view_is) c.statements_are_numbered.ensures.once;
      keys = (c.fresh_is_once.ensures (map key_of design)).0 fresh;
      tables = subst (λ (rs : List Record). AreTablesOf (zip (numbers_of content) rs) content.names) same inv.tables;
    }
