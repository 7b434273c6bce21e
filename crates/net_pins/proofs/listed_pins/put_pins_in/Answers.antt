use Rattle.std.proofs.Common.{◌≡◌, ◌+◌, true, List, drop, ap, ◌∙◌, subst}
use Rattle.std.specs.List.{filter_map}
use Rattle.std.specs.Option.{option_to_list}
use Rattle.form_meanings.specs.Words.{◌>>=◌}
use Rattle.def_grammar.specs.Records.{Record, component_of, entry_of}
use Rattle.connection_rules.specs.Terminals.{pin_of_component}
use Rattle.cell_library.proofs.AddingLemmas.{split_at}
use Rattle.def_reader.specs.StatementViews.{record_view, records_view}
use Rattle.design_wires.specs.Scales.{units_of}
use Rattle.design_names.specs.Apart.{are_apart}
use Rattle.net_pins.specs.Unseen.{AreUnseen}
use Rattle.net_pins.proofs.PutLemmas.{filter_more, more_pins_put}
use Rattle.net_pins.proofs.UnseenLemmas.{one_fewer_apart, one_fewer_unseen}
use Rattle.net_pins.proofs.listed_pins.put_pins_in.Goals as goal

pub put_pin_of_statement-requires-clause-new : goal.put_pin_of_statement-requires-clause-new
put_pin_of_statement-requires-clause-new g c new =
    let there = ap records_view (split_at c.args.records.now c.loop-statement.statement-index c.statement-item.result c.loop-statement-test.true c.statement-item.is) in
    ((subst (λ (rs : List Record). AreUnseen c.args.pin.now c.loop-statement.walk.seen rs) there (c.loop-statement.invariant.unseen new)).0, tt)

pub loop-statement-preserved : goal.loop-statement-preserved
loop-statement-preserved g c =
    let i = c.loop-statement.statement-index in
    let library = c.args.of.now.library.now in
    let u = units_of c.args.of.now.scale in
    let f = pin_of_component library u c.args.pin.now in
    let r = record_view c.statement-item.result in
    let there = split_at c.args.records.now i c.statement-item.result c.loop-statement-test.true c.statement-item.is in
    let later = records_view (drop (i + 1) c.args.records.now) in
    let rest = filter_map component_of later in
    let p = c.loop-statement.invariant in
    let put = c.in_ok-put_pin_of_statement.ensures.ok in
    let apart = λ (new : c.args.are_new ≡ true). subst (λ (rs : List Record). are_apart (filter_map entry_of rs) ≡ true) (ap records_view there) (p.apart new) in
    record {
      puts = more_pins_put (option_to_list (component_of r >>= f)) (filter_map f rest)
          (ap (λ rs. filter_map f (filter_map component_of (records_view rs))) there ∙ filter_more f (component_of r) rest)
          p.puts put c.in_ok-put_pin_of_statement.ensures.ready;
      unseen = λ (new : c.args.are_new ≡ true). one_fewer_unseen library u c.args.pin.now c.loop-statement.walk.seen _ c.loop-statement.nets _ r later (apart new) put (subst (λ (rs : List Record). AreUnseen c.args.pin.now c.loop-statement.walk.seen rs) (ap records_view there) (p.unseen new));
      apart = λ (new : c.args.are_new ≡ true). one_fewer_apart r later (apart new);
    }
