use Rattle.std.proofs.Common.{Bor, Option, refl, sym, ap, ◌∙◌, is_some, true, false}
use Rattle.design_model.specs.EnumWords.{section_word}
use Rattle.def_reader.specs.EntryViews.{entry_view}
use Rattle.def_reader.specs.declared.entry.Entry as code
use Rattle.design_names.specs.NameViews.{lent_entry}
use Rattle.design_names.proofs.ApartLemmas.{known_by}
use Rattle.design_names.proofs.TableLemmas.{adds_back, adds_last}
use Rattle.design_names.proofs.names.add.Goals as goal

pub returns-in-Some-2-clause-added : goal.returns-in-Some-2-clause-added
returns-in-Some-2-clause-added g c =
    adds_back lent_entry (entry_view c.args.entry.now) c.in-Some.name.now (sym c.in-Some.ensures) c.args.table.now.entries (record { word = c.word-word.result; name = c.in-Some.name }) c.args.entry
    (c.word-word.ensures ∙ ap section_word c.section.ensures) refl c.insert.new.self.entries c.insert-in-Some-2.new.self.entries c.in-Some-2.first
    (sym c.in_ok-first.ensures.old ∙ c.in-Some-2.is) c.in_ok-first.ensures.entries c.in_ok-insert.ensures.entries

pub returns-clause-added : goal.returns-clause-added
returns-clause-added g c =
    adds_last lent_entry (entry_view c.args.entry.now) c.in-Some.name.now (sym c.in-Some.ensures) c.args.table.now.entries (record { word = c.word-word.result; name = c.in-Some.name }) c.args.entry
    (c.word-word.ensures ∙ ap section_word c.section.ensures) refl c.insert.new.self.entries refl
    (ap (λ (o : Option (Bor code.Entry)). is_some o) (sym c.in_ok-first.ensures.old ∙ c.in_default-2.is)) c.in_ok-first.ensures.entries

pub returns-in-Some-2-clause-is_taken : goal.returns-in-Some-2-clause-is_taken
returns-in-Some-2-clause-is_taken g c =
    known_by lent_entry c.args.table.now.entries (entry_view c.args.entry.now) c.in-Some.name.now c.word-word.result.now true (sym c.in-Some.ensures) (c.word-word.ensures ∙ ap section_word c.section.ensures)
    (ap (λ (o : Option (Bor code.Entry)). is_some o) (sym c.in_ok-first.ensures.old ∙ c.in-Some-2.is))

pub returns-clause-is_taken : goal.returns-clause-is_taken
returns-clause-is_taken g c =
    known_by lent_entry c.args.table.now.entries (entry_view c.args.entry.now) c.in-Some.name.now c.word-word.result.now false (sym c.in-Some.ensures) (c.word-word.ensures ∙ ap section_word c.section.ensures)
    (ap (λ (o : Option (Bor code.Entry)). is_some o) (sym c.in_ok-first.ensures.old ∙ c.in_default-2.is))
