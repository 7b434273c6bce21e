use Rattle.std.proofs.Common.{◌≡◌, ◌+◌, ◌∙◌, ◌∷◌, ap, add-one, drop, drop-cons, get_or, sym}
use Rattle.std.proofs.lemmas.List.{drop_all}
use Rattle.def_grammar.specs.Records.{entry_of}
use Rattle.def_reader.specs.declared.statement.Statement.{Statement}
use Rattle.def_reader.specs.EntryViews.{entry_view}
use Rattle.def_reader.specs.StatementViews.{record_view, records_view}
use Rattle.design_names.specs.NameViews.{lent_entry}
use Rattle.design_names.proofs.ApartLemmas.{index_of_all, passing_none, same_behind, same_with}
use Rattle.design_names.proofs.NameLemmas.{says_none}
use Rattle.design_names.proofs.TableLemmas.{passed_entry, passed_other}
use Rattle.design_names.proofs.names.names_of.Goals as goal
use Rattle.design_names.proofs.names.names_of.Goals.{in-Entry+in_ok-is_taken, in_default}

pub invariant_of-result : goal.invariant_of-result
invariant_of-result g c =
    index_of_all lent_entry c.loop-statement.table.entries c.loop-statement.are_apart (records_view (drop c.loop-statement.statement-index c.args.records.now)) (records_view c.args.records.now)
    (ap records_view (drop_all c.loop-statement.statement-index c.args.records.now c.loop-statement-test.false)) c.loop-statement.invariant

pub loop-statement-init : goal.loop-statement-init
loop-statement-init g c = passing_none lent_entry c.in_ok-table.table.entries (records_view c.args.records.now) c.in_ok-table.ensures.empty

pub loop-statement-preserved : goal.loop-statement-preserved
loop-statement-preserved g c =
    let records = c.args.records.now in
    let i = c.loop-statement.statement-index in
    let all = records_view records in
    let left = records_view (drop i records) in
    let later = records_view (drop (i + 1) records) in
    let r = record_view (get_or records i c.statement-item.result) in
    let is : left ≡ r ∷ later = rw (add-one i) (ap records_view (drop-cons records i c.statement-item.result c.loop-statement-test.true)) in
    let p = c.loop-statement.invariant in
    elim c.match-statement.branch [
      | in-Entry+in_ok-is_taken w ↦
          let one = ap (λ (s : Statement). entry_of (record_view s)) (sym c.statement-item.is ∙ w.in-Entry.is) in
          let e = entry_view w.in-Entry.entry in
          rw (w.table-is, w.are_apart-is) (record {
            firsts = passed_entry lent_entry c.loop-statement.table.entries left later all r is p.firsts e w.add.new.table.entries one w.in_ok-is_taken.ensures.added;
            same = same_with lent_entry c.loop-statement.table.entries c.loop-statement.are_apart left later all r is p e w.add.new.table.entries w.in_ok-is_taken.is_taken one w.in_ok-is_taken.ensures.added w.in_ok-is_taken.ensures.is_taken;
          })
      | in_default w ↦
          let none = ap (λ (s : Statement). entry_of (record_view s)) (sym c.statement-item.is) ∙ says_none c.statement-item.result w.in_default.not-Entry in
          rw (w.table-is, w.are_apart-is) (record {
            firsts = passed_other lent_entry c.loop-statement.table.entries left later all r is p.firsts none;
            same = same_behind lent_entry c.loop-statement.table.entries c.loop-statement.are_apart left later all r is p none;
          })
    ]
