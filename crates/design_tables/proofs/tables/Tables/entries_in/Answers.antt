use Rattle.std.proofs.Common.{List, ℕ, Option, ap, ◌∙◌}
use Rattle.design_tables.specs.Listings.{Listing, listed, or_unlisted}
use Rattle.design_tables.proofs.TableLemmas.{entries_are}
use Rattle.design_tables.proofs.tables.Tables.entries_in.Goals as goal

pub returns-in-Some : goal.returns-in-Some
returns-in-Some g c = λ xs are.
    ap (λ (o : Option Listing). (or_unlisted o).entries) c.in-Some.ensures
    ∙ ap (λ (w : List ℕ). (listed w c.self.inside.names).entries) c.word.ensures
    ∙ entries_are c.args.section xs c.self.inside.names (rw c.self.view_is are)

pub returns-in-None : goal.returns-in-None
returns-in-None g c = λ xs are.
    ap (λ (o : Option Listing). (or_unlisted o).entries) c.in-None.ensures
    ∙ ap (λ (w : List ℕ). (listed w c.self.inside.names).entries) c.word.ensures
    ∙ entries_are c.args.section xs c.self.inside.names (rw c.self.view_is are)
