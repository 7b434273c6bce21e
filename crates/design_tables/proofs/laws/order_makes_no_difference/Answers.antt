use Rattle.design_tables.proofs.Orders.{keys_same, tables_same}
use Rattle.design_tables.proofs.laws.order_makes_no_difference.Goals as goal

pub returns : goal.returns
returns c = record { tables = tables_same; keys = keys_same }
