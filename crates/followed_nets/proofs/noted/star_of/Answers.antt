use Rattle.std.proofs.Common.{◌≡◌, ◌++◌, ◌∷◌, List}
use Rattle.connection_rules.specs.NetParts.{Net}
use Rattle.design_text.specs.DesignTexts.{design_of}
use Rattle.followed_nets.specs.Stars.{IsStar}
use Rattle.followed_nets.proofs.NoteLemmas.{if_ok_some, star_among}
use Rattle.followed_nets.proofs.noted.star_of.Goals as goal

pub returns-clause-star : goal.returns-clause-star
returns-clause-star g c = λ library all.
    let design = design_of c.args.text.now in
    if_ok_some (λ (n : Net). (n.name ≡ c.args.name.now) × ((before : List Net) × (behind : List Net) × (c.args.nets.now ≡ before ++ n ∷ behind))) (IsStar library design) c.copied.result
    (λ n h. star_among library design c.args.nets.now h.1.0 h.1.1 n c.args.name.now _ _ all h.1.2 h.0 c.in-Some.ensures)
    c.copied.ensures
