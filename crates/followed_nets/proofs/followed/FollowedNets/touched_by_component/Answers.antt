use Rattle.std.proofs.Common.{◌≡◌, ◌∙◌, ◌++◌, List, Some, ap, map, subst, sym}
use Rattle.std.specs.List.{AllByRecursion}
use Rattle.def_grammar.specs.Records.{Record}
use Rattle.connection_rules.specs.NetLines.{barriers}
use Rattle.design_rules.specs.Boxes.{scale}
use Rattle.line_laws.specs.Lines.{SameThings}
use Rattle.design_text.specs.DesignTexts.{design_of}
use Rattle.followed_nets.specs.Heads.{IsHead}
use Rattle.followed_nets.specs.Listed.{AllList}
use Rattle.followed_nets.specs.Stars.{AreStars, names_of}
use Rattle.followed_nets.specs.ToldViews.{head_view, star_view}
use Rattle.followed_nets.specs.Touched.{Touched, star_names}
use Rattle.followed_nets.proofs.ListedNets.{both_list}
use Rattle.followed_nets.proofs.NoteLemmas.{if_ok_both}
use Rattle.followed_nets.proofs.ToldNets.{no_other_lists}
use Rattle.followed_nets.proofs.followed.FollowedNets.touched_by_component.Goals as goal

pub told_stars-requires-clause-heads : goal.told_stars-requires-clause-heads
told_stars-requires-clause-heads g c =
    let kept = rw (← c.self.view_is) at c.requires.heads_are in
    rw (c.deref-2.ensures.value) (subst (λ (d : List Record). AllByRecursion (IsHead d) (map head_view c.self.inside.heads.items)) c.statements_are_kept.ensures.said kept)

pub touched-requires-clause-lists : goal.touched-requires-clause-lists
touched-requires-clause-lists g c =
    let design = design_of c.args.text.now in
    let library = c.args.library.now in
    let kept = rw (c.in-Some.is) at (rw (← c.self.view_is) at c.requires.stars_are) in
    let are = subst (λ (d : List Record). AreStars library d c.in-Some.kept.items) c.statements_are_kept.ensures.said kept in
    let told = rw (c.in-Some-3.is) at c.in_ok-stars.ensures.named in
    let named : star_names (map star_view c.in-Some-3.stars.items) ≡ names_of c.in-Some.kept.items = told ∙ ap names_of c.deref-3.ensures.value in
    let listing = rw (c.in-Some-2.is) at c.in_ok-listing.ensures.listing in
    let cover = rw (c.deref-4.ensures.value, c.deref-5.ensures.value) at c.in_ok-names.ensures.all in
    rw (named, c.in_ok-name.ensures)
    (no_other_lists c.args.component.now (sym c.is_word.ensures ∙ c.if-is_word.false) (sym c.is_word-else-is_word.ensures ∙ c.if-is_word-2.false) design c.in_ok-names.names.items (names_of c.in-Some.kept.items) c.in-Some-2.listing.items are.names listing cover)

pub touched-requires-clause-apart : goal.touched-requires-clause-apart
touched-requires-clause-apart g c =
    let kept = rw (c.in-Some.is) at (rw (← c.self.view_is) at c.requires.stars_are) in
    let told = rw (c.in-Some-3.is) at c.in_ok-stars.ensures.named in
    let named : star_names (map star_view c.in-Some-3.stars.items) ≡ names_of c.in-Some.kept.items = told ∙ ap names_of c.deref-3.ensures.value in
    let listing = rw (c.in-Some-2.is) at c.in_ok-listing.ensures.apart in
    let apart = rw (c.deref-4.ensures.value, c.deref-5.ensures.value) at c.in_ok-names.ensures.apart in
    rw named (apart listing kept.names.apart)

pub touched-requires-clause-pins : goal.touched-requires-clause-pins
touched-requires-clause-pins g c = rw (c.in_ok-name.ensures) (rw (c.in-Some-3.is) at c.in_ok-stars.ensures.pins)

pub returns-clause-names : goal.returns-clause-names
returns-clause-names g c =
    let component = c.args.component.now in
    let design = design_of c.args.text.now in
    let library = c.args.library.now in
    let kept = rw (c.in-Some.is) at (rw (← c.self.view_is) at c.requires.stars_are) in
    let are = subst (λ (d : List Record). AreStars library d c.in-Some.kept.items) c.statements_are_kept.ensures.said kept in
    let told = rw (c.in-Some-3.is) at c.in_ok-stars.ensures.named in
    let named : star_names (map star_view c.in-Some-3.stars.items) ≡ names_of c.in-Some.kept.items = told ∙ ap names_of c.deref-3.ensures.value in
    let listing = rw (c.in-Some-2.is) at c.in_ok-listing.ensures.only in
    let only = rw (c.deref-4.ensures.value) at c.in_ok-names.ensures.only in
    let lists = both_list component design c.in_ok-names.names.items (names_of c.in-Some.kept.items) (λ net is. listing net (only net is)) are.names.own in
    if_ok_both
    (λ (t : Touched). t.names ≡ c.in_ok-names.names.items)
    (λ (t : Touched). (t.component ≡ Some c.in_ok-name.name) × (t.stars ≡ map star_view c.in-Some-3.stars.items))
    (λ (t : Touched). AllList design component (t.names ++ star_names t.stars) × (t.component ≡ Some component))
    c.touched.result
    (λ t names own. (rw (names, own.1, named) lists, own.0 ∙ ap Some c.in_ok-name.ensures))
    c.touched.ensures.names
    c.touched.ensures.component

pub touched-requires-clause-bars : goal.touched-requires-clause-bars
touched-requires-clause-bars g c =
    let library = c.args.library.now in
    subst (λ (d : List Record). SameThings c.args.self.now.bars (barriers library d (scale d))) c.statements_are_kept.ensures.said c.requires.bars_are
