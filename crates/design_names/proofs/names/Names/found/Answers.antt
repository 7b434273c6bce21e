use Rattle.std.proofs.Common.{ℕ, List, ap, ◌∙◌}
use Rattle.std.specs.Map.{lookup}
use Rattle.std.specs.Option.{option_map}
use Rattle.def_grammar.specs.Records.{Record}
use Rattle.entry_rules.specs.EntryNames.{entry_named}
use Rattle.design_names.specs.NameViews.{lent_entry}
use Rattle.design_names.specs.Tables.{is_key}
use Rattle.design_names.proofs.names.Names.found.Goals as goal

pub returns : goal.returns
returns g c =
    ap (option_map lent_entry) c.in_ok-place.ensures.value
    ∙ ap (λ (word : List ℕ). option_map lent_entry (lookup (is_key word c.args.name.now) c.self.inside.table.entries)) c.word-word.ensures
    ∙ c.self.invariant.firsts.first c.args.section c.args.name.now
    ∙ ap (λ (design : List Record). entry_named design c.args.section c.args.name.now) c.self.view_is
