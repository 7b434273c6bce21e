use Rattle.std.proofs.Common.{◌++◌, [], List, subst}
use Rattle.def_grammar.specs.Records.{Record}
use Rattle.connection_rules.specs.NetLines.{barriers}
use Rattle.design_rules.specs.Boxes.{scale}
use Rattle.line_laws.specs.Lines.{SameThings}
use Rattle.design_text.specs.DesignTexts.{design_of}
use Rattle.followed_nets.proofs.ToldNets.{none_lists}
use Rattle.followed_nets.proofs.followed.FollowedNets.touched_by_net.Goals as goal

pub touched-requires-clause-lists : goal.touched-requires-clause-lists
touched-requires-clause-lists g c = none_lists (design_of c.args.text.now) (c.push.new.self.items ++ [])

pub touched-requires-clause-bars : goal.touched-requires-clause-bars
touched-requires-clause-bars g c =
    let library = c.args.library.now in
    subst (λ (d : List Record). SameThings c.args.self.now.bars (barriers library d (scale d))) c.statements_are_kept.ensures.said c.requires.bars_are
