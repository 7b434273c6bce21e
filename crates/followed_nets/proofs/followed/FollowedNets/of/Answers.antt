use Rattle.std.proofs.Common.{◌≡◌, ◌∙◌, List, map, ap, refl, subst, sym}
use Rattle.std.specs.List.{AllByRecursion}
use Rattle.std.specs.Option.{option_map}
use Rattle.std.specs.Prelude.{IfSome}
use Rattle.def_grammar.specs.Records.{Record}
use Rattle.design_rules.specs.Boxes.{scale}
use Rattle.connection_rules.specs.NetLines.{barriers}
use Rattle.connection_rules.specs.NetParts.{all_nets}
use Rattle.net_touches.specs.Barriers.{barrier_view}
use Rattle.design_tables.specs.TableViews.{numbered_view}
use Rattle.line_laws.specs.Lines.{SameThings}
use Rattle.named_shapes.specs.Named.{shapes_by_name}
use Rattle.design_text.specs.DesignTexts.{design_of}
use Rattle.design_text.specs.Exchanges.{records_in}
use Rattle.followed_nets.specs.Heads.{IsHead}
use Rattle.followed_nets.specs.Noted.{numbers_telling, said}
use Rattle.followed_nets.specs.Stars.{AreStarNames, AreStars}
use Rattle.followed_nets.specs.ToldViews.{head_view}
use Rattle.followed_nets.proofs.NoteLemmas.{if_seen}
use Rattle.followed_nets.proofs.followed.FollowedNets.of.Goals as goal

pub returns : goal.returns
returns g c =
    let library = c.args.library.now in
    let read = c.in_ok-statements.ensures in
    let said_so = c.statements_are_kept.ensures.said in
    let commons = ap (map numbered_view) c.deref.ensures.value ∙ read in
    let all = ap said (ap (map numbered_view) c.deref-2.ensures.value ∙ read) ∙ said_so in
    let names = subst (λ (d : List Record). IfSome c.in_ok-names.names (λ v. AreStarNames d v.items)) all c.in_ok-names.ensures in
    record {
      shapes_are = subst (λ (d : List Record). SameThings c.in_ok-drawn.drawn.shapes (shapes_by_name (all_nets library d (scale d)))) (sym said_so) c.in_ok-drawn.ensures.shapes;
      common_are = c.in_ok-common.ensures ∙ ap numbers_telling commons;
      bars_are = subst (λ (d : List Record). SameThings (map barrier_view c.in_ok-drawn.drawn.bars.items) (barriers library d (scale d))) (sym said_so) (rw (c.in_ok-drawn.ensures.bars) (record { sums = λ w. refl }));
      stars_are = if_seen (λ v. v.items) (AreStars library (said (records_in c.args.text.now))) c.in_ok-drawn.drawn.stars
          (subst (λ (d : List Record). IfSome c.in_ok-drawn.drawn.stars (λ v. AreStars library d v.items)) (sym said_so) (c.in_ok-drawn.ensures.stars names));
      heads_are = subst (λ (d : List Record). AllByRecursion (IsHead d) (map head_view c.in_ok-heads.heads.items)) (sym said_so) c.in_ok-heads.ensures;
    }
