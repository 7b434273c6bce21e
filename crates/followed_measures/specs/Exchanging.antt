-- Nets that list a pin of all components, of which the pins by one are to be exchanged in answers.
use Rattle.std.specs.Prelude.{◌≡◌, ℕ, List}
use Rattle.def_grammar.specs.Records.{Record}
use Rattle.lef_grammar.specs.Library.{Library}
use Rattle.design_rules.specs.Boxes.{scale}
use Rattle.net_laws.specs.StarNets.{AgreeBut}
use Rattle.reports.specs.Answers.{Answers}
use Rattle.followed_nets.specs.Listed.{AreApart}
use Rattle.followed_nets.specs.StarHeads.{ArePinShapes, IsPinsBy, PinShapes, pin_names}
use Rattle.followed_measures.specs.ExchangedNets.{HasNet}

-- one net: designs agree on all but that component, what goes is of the old one, in which the net is answered on, and what comes of the new
pub record AwaitsStar (library : Library) (old new : List Record) (component : List ℕ) (before after : PinShapes) (a : Answers) : Type 0 where
  pub had : HasNet library old a before.name
  pub agree : (net : List ℕ) → AgreeBut old new net component
  pub scales : scale old ≡ scale new
  pub goes : IsPinsBy library old component before
  pub comes : IsPinsBy library new component after

-- several nets, none of them twice
pub record AwaitsStars (library : Library) (old new : List Record) (component : List ℕ) (before after : List PinShapes) (a : Answers) : Type 0 where
  pub had : (name : List ℕ) → HasNet library old a name
  pub agree : (net : List ℕ) → AgreeBut old new net component
  pub scales : scale old ≡ scale new
  pub go : ArePinShapes library old component before
  pub come : ArePinShapes library new component after
  pub apart : AreApart (pin_names before)
