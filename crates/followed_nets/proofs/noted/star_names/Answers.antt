use Rattle.std.proofs.Common.{rules, ◌≡◌, ◌∙◌, ◌++◌, ◌∷◌, [], ◌+◌, List, ap, false, true, map, subst, sym, take}
use Rattle.std.specs.List.{list_any}
use Rattle.def_grammar.specs.Records.{Record}
use Rattle.def_grammar.specs.Terminals.{is_of_all}
use Rattle.def_reader.specs.StatementViews.{record_view}
use Rattle.design_tables.specs.TableViews.{numbered_view}
use Rattle.net_laws.specs.NetsTold.{terminals_of}
use Rattle.followed_nets.specs.Noted.{said}
use Rattle.followed_nets.proofs.NoteLemmas.{said_up_to_next, with_star, without_star}
use Rattle.followed_nets.proofs.noted.star_names.Goals as goal
use Rattle.followed_nets.proofs.noted.star_names.Goals.{else-lists_all, then-lists_all+in_ok-add_net}

pub loop-numbered-preserved : goal.loop-numbered-preserved
loop-numbered-preserved g c =
    let so_far = said (map numbered_view (take c.loop-numbered.numbered-index c.args.statements.now)) in
    let r = record_view c.numbered-item.result.statement in
    let next = said_up_to_next numbered_view c.args.statements.now c.loop-numbered.numbered-index c.numbered-item.result c.loop-numbered-test.true c.numbered-item.is in
    elim c.if-lists_all.branch [
      | then-lists_all+in_ok-add_net w ↦
          let lists : list_any is_of_all (terminals_of r) ≡ true = search rules in
          rw (next, w.names-is) (with_star so_far r c.loop-numbered.names.items w.add_net.new.nets.items (w.in_ok-add_net.ensures.apart c.loop-numbered.invariant.apart) w.in_ok-add_net.ensures.all lists c.loop-numbered.invariant)
      | else-lists_all w ↦
          let none : list_any is_of_all (terminals_of r) ≡ false = search rules in
          rw (next, w.names-is) (without_star so_far r c.loop-numbered.names.items none c.loop-numbered.invariant)
    ]
