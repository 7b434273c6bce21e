use Rattle.std.proofs.Common.{sym, ◌∙◌}
use Rattle.cell_library.proofs.NamedLemmas.{added_new, added_old}
use Rattle.cell_library.proofs.named.Named.add.Goals as goal

pub returns-then-contains_key-clause-ok : goal.returns-then-contains_key-clause-ok
returns-then-contains_key-clause-ok g c =
    rw (← c.self.view_is)
    (added_old g.row.D.Denot (record { bytes = c.args.name }) c.args.definition c.self.inside.entries.entries (sym c.contains_key.ensures ∙ c.if-contains_key.true))

pub returns-clause-ok : goal.returns-clause-ok
returns-clause-ok g c =
    rw (← c.self.view_is)
    (added_new g.row.D.Denot (record { bytes = c.args.name }) c.args.definition c.self.inside.entries.entries c.insert.new.self.entries (sym c.contains_key.ensures ∙ c.if-contains_key.false) c.in_ok-insert.ensures.entries)
