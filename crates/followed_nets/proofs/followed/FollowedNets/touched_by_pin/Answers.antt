use Rattle.std.proofs.Common.{◌≡◌, ◌∙◌, ◌++◌, List, None, [], append-nil, subst, sym}
use Rattle.def_grammar.specs.Records.{Record}
use Rattle.connection_rules.specs.NetLines.{barriers}
use Rattle.design_rules.specs.Boxes.{scale}
use Rattle.line_laws.specs.Lines.{SameThings}
use Rattle.design_text.specs.DesignTexts.{design_of}
use Rattle.followed_nets.specs.Listed.{AllOfPin, AreApart}
use Rattle.followed_nets.specs.Touched.{Touched}
use Rattle.followed_nets.proofs.NoteLemmas.{if_ok_both}
use Rattle.followed_nets.proofs.ToldNets.{no_other_lists_pin}
use Rattle.followed_nets.proofs.followed.FollowedNets.touched_by_pin.Goals as goal

pub touched-requires-clause-bars : goal.touched-requires-clause-bars
touched-requires-clause-bars g c =
    let library = c.args.library.now in
    subst (λ (d : List Record). SameThings c.args.self.now.bars (barriers library d (scale d))) c.statements_are_kept.ensures.said c.requires.bars_are

pub touched-requires-clause-apart : goal.touched-requires-clause-apart
touched-requires-clause-apart g c = subst AreApart (sym (append-nil c.in-Some.names.items)) (rw (c.in-Some.is) at c.in_ok-names.ensures.apart)

pub touched-requires-clause-lists : goal.touched-requires-clause-lists
touched-requires-clause-lists g c =
    rw (c.in_ok-pin.ensures) (no_other_lists_pin (design_of c.args.text.now) c.args.pin.now c.in-Some.names.items (rw (c.in-Some.is) at c.in_ok-names.ensures.listing))

pub returns-clause-names : goal.returns-clause-names
returns-clause-names g c =
    let design = design_of c.args.text.now in
    let pin = c.args.pin.now in
    let only = rw (c.in-Some.is) at c.in_ok-names.ensures.only in
    if_ok_both
    (λ (t : Touched). t.names ≡ c.in-Some.names.items)
    (λ (t : Touched). (t.component ≡ None) × (t.stars ≡ []))
    (λ (t : Touched). AllOfPin design pin t.names × (t.stars ≡ []) × (t.component ≡ None))
    c.touched.result
    (λ t names own. (rw names only, own.1, own.0))
    c.touched.ensures.names
    c.touched.ensures.component
