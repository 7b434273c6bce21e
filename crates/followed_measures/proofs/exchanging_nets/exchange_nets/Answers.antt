use Rattle.std.proofs.Common.{rules, ◌≡◌, ◌∙◌, ◌∷◌, [], ap, map, sym, true}
use Rattle.std.proofs.lemmas.List.{map-append, nil_from_length}
use Rattle.design_text.specs.DesignTexts.{design_of}
use Rattle.followed_measures.specs.Told.{told_names}
use Rattle.followed_measures.specs.ToldViews.{net_view}
use Rattle.followed_measures.proofs.LoopLemmas.{all_done, next_told, none_told}
use Rattle.followed_measures.proofs.exchanging_nets.exchange_nets.Goals as goal

pub loop-net-init : goal.loop-net-init
loop-net-init g c = record {
  left = λ old are. none_told c.args.library.now old (design_of c.args.text.now) _ _ are;
}

pub loop-net-preserved : goal.loop-net-preserved
loop-net-preserved g c = record {
  left = λ old are.
      let so_far = c.loop-net.invariant.left old are in
      let last = ap (map net_view) c.in-Some.ensures.items ∙ map-append net_view c.pop.new.self.items (c.in-Some.net ∷ []) in
      let yes : c.in_ok-exchange_net.field-0 ≡ true = search rules in
      next_told c.args.library.now old (design_of c.args.text.now) _ _ _ (net_view c.in-Some.net) _ _ _ last so_far (λ one. c.in_ok-exchange_net.ensures old one yes);
}

pub returns : goal.returns
returns g c = λ old are is.
    let so_far = c.loop-net.invariant.left old are in
    let none = nil_from_length c.loop-net.left.items (sym c.loop-net.left.ok.0 ∙ c.in_default.ensures.cases.0) in
    all_done c.args.library.now old (design_of c.args.text.now) _ _ _ _ (ap (λ ts. told_names (map net_view ts)) none) so_far.nets
