use Rattle.std.proofs.Common.{sym}
use Rattle.def_reader.specs.StatementViews.{record_view}
use Rattle.design_tables.specs.Listings.{has_name}
use Rattle.design_tables.specs.MarkViews.{name_mark_view}
use Rattle.design_tables.proofs.PutLemmas.{if_ok_on, is_new_name, new_once}
use Rattle.design_tables.proofs.names.NameTable.put_own.Goals as goal

pub returns-in_ok-new-in-Some-clause-once : goal.returns-in_ok-new-in-Some-clause-once
returns-in_ok-new-in-Some-clause-once g c =
    if_ok_on c.put_new.result _ _
    (λ is_new put fresh is. new_once c.args.id (name_mark_view c.in-Some.mark) c.args.self.now c.put_new.new.self put (record_view c.args.statement.now) (sym c.in-Some.ensures) (is_new_name is_new (has_name c.in-Some.mark.name.now c.args.self.now) fresh is))
    (rw c.in_ok-new-in-Some.ensures at c.put_new.ensures.put) c.put_new.ensures.fresh
