use Rattle.std.proofs.Common.{◌≡◌, [], drop, map, ap, ◌∙◌, rules}
use Rattle.std.proofs.lemmas.List.{drop_all}
use Rattle.std.specs.List.{filter_map}
use Rattle.connection_rules.specs.NetParts.{wired_of}
use Rattle.design_rules.specs.Boxes.{scale}
use Rattle.measure_rules.specs.Lengths.{wired_length}
use Rattle.net_entries.specs.NetEntries.{entry_lent}
use Rattle.drawn_parts.proofs.EntryLemmas.{entry_put}
use Rattle.drawn_parts.proofs.LengthLemmas.{all_added, capped_below, entry_added}
use Rattle.drawn_parts.proofs.entries.put_drawn.Goals as goal

pub loop-lent-preserved : goal.loop-lent-preserved
loop-lent-preserved g c =
    let wired = wired_of c.args.wires.now.library c.args.wires.now.design (scale c.args.wires.now.design) in
    let entries = c.args.entries.now in
    let same = c.loop-lent.invariant.same in
    record {
      net = c.in_ok-more.ensures.net;
      same = c.in_ok-more.ensures.same ∙ same;
      so_far =
          entry_put c.args.walk.now.layers.layers entry_lent wired entries c.loop-lent.lent-index
          c.lent-item.result _ _ _ c.loop-lent-test.true c.lent-item.is (rw same at c.in_ok-more.ensures.ok) c.loop-lent.invariant.so_far;
      below = capped_below _ _ c.saturating_add-length.ensures;
      length =
          entry_added entry_lent wired entries c.loop-lent.lent-index c.lent-item.result _ _ _ _ c.loop-lent-test.true c.lent-item.is c.in_ok-more.ensures.length c.saturating_add-length.ensures
          c.loop-lent.invariant.length;
    }

pub returns-clause-length : goal.returns-clause-length
returns-clause-length g c =
    let wired = wired_of c.args.wires.now.library c.args.wires.now.design (scale c.args.wires.now.design) in
    let entries = c.args.entries.now in
    let none : drop c.loop-lent.lent-index entries ≡ [] = drop_all c.loop-lent.lent-index entries (search rules) in
    rw (c.requires.library)
    (all_added wired_length _ _ (filter_map wired (map entry_lent (drop c.loop-lent.lent-index entries))) (ap (λ es. filter_map wired (map entry_lent es)) none) c.loop-lent.invariant.below
    c.loop-lent.invariant.length)
