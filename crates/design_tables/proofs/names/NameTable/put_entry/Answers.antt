use Rattle.std.proofs.Common.{◌∷◌, [], ◌∙◌, ap}
use Rattle.std.specs.Prelude.{flat_map}
use Rattle.design_model.specs.EnumWords.{section_word}
use Rattle.def_grammar.specs.Records.{section_of}
use Rattle.def_reader.specs.EntryViews.{entry_view}
use Rattle.design_tables.specs.Marks.{terminal_marks, terminals_of}
use Rattle.design_tables.specs.declared.role.Role.TheVariants as roles
use Rattle.design_tables.proofs.ListingLemmas.{on_ok}
use Rattle.design_tables.proofs.MarkLemmas.{put_both}
use Rattle.design_tables.proofs.PutLemmas.{word_put}
use Rattle.design_tables.proofs.names.NameTable.put_entry.Goals as goal

pub returns-in-Some : goal.returns-in-Some
returns-in-Some g c =
    let e = entry_view c.args.entry.now in
    let word = section_word (section_of e) in
    on_ok c.put_terminals.result
    (λ later. put_both c.args.id ((word, roles.Member) ∷ []) (flat_map terminal_marks (terminals_of e)) c.args.self.now c.put_again.new.self c.put_terminals.new.self
    (word_put c.args.id roles.Member c.word.result.now word c.args.self.now c.put_again.new.self (c.word.ensures ∙ ap section_word c.section.ensures) (rw c.in_ok-new.ensures at c.in_ok-put_again.ensures))
    (rw c.in-Some.ensures later))
    c.put_terminals.ensures
