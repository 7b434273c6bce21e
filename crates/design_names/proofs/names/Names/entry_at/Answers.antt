use Rattle.std.proofs.Common.{◌≡◌, ℕ, List, ap, sym, ◌∙◌}
use Rattle.std.specs.Map.{lookup}
use Rattle.std.specs.Option.{option_map}
use Rattle.design_model.specs.EnumWords.{section_word}
use Rattle.def_grammar.specs.Records.{Record}
use Rattle.entry_rules.specs.EntryNames.{entry_named}
use Rattle.design_names.specs.NameViews.{lent_entry}
use Rattle.design_names.specs.Tables.{is_key}
use Rattle.design_names.proofs.TableLemmas.{same_bytes}
use Rattle.design_names.proofs.names.Names.entry_at.Goals as goal

pub returns-then-eq-2 : goal.returns-then-eq-2
returns-then-eq-2 g c =
    let key = c.in_ok-key.key.now in
    let table = c.self.inside.table.entries in
    let name : key.name.now ≡ c.args.name.now = same_bytes key.name.now c.args.name.now (sym c.eq.ensures ∙ c.if-eq.true) in
    let word : key.word.now ≡ section_word c.args.section = same_bytes key.word.now c.word.result.now (sym c.eq-then-eq.ensures ∙ c.if-eq-2.true) ∙ c.word.ensures in
    sym (ap (λ (design : List Record). entry_named design c.args.section c.args.name.now) c.self.view_is)
    ∙ sym (c.self.invariant.firsts.first c.args.section c.args.name.now)
    ∙ ap (λ (w : List ℕ). option_map lent_entry (lookup (is_key w c.args.name.now) table)) (sym word)
    ∙ ap (λ (n : List ℕ). option_map lent_entry (lookup (is_key key.word.now n) table)) (sym name)
    ∙ ap (option_map lent_entry) c.in_ok-key.ensures.value
