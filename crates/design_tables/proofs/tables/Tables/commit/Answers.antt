use Rattle.design_tables.proofs.TurnLemmas.{turned}
use Rattle.design_tables.proofs.tables.Tables.commit.Goals as goal

pub returns : goal.returns
returns g c = λ base other is.
    turned c.self.inside.names c.change.inside.names c.exchange.new.self c.exchange.new.change base other (rw (c.self.view_is, c.change.view_is) is) c.exchange.ensures.change c.exchange.ensures.names
