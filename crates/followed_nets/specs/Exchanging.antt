-- Nets of a design that are told.
use Rattle.std.specs.Prelude.{ℕ, List, map}
use Rattle.std.specs.List.{AllByRecursion}
use Rattle.def_grammar.specs.Records.{Record}
use Rattle.design_rules.specs.Boxes.{scale}
use Rattle.lef_grammar.specs.Library.{Library}
use Rattle.connection_rules.specs.NetLines.{Barrier}
use Rattle.connection_rules.specs.NetParts.{Net, net_named}
use Rattle.followed_nets.specs.Told.{IsToldIn, Told}

abbrev pub name_of : Told → List ℕ
name_of t = t.name

-- what is told are nets of a design, where these rectangles block routing
abbrev pub AreToldIn : Library → List Barrier → List Record → List Told → Type 0
AreToldIn library bars design ts = AllByRecursion (λ t. IsToldIn library bars design t.name t) ts

-- the nets of a design that some are told to be
abbrev pub nets_told : Library → List Record → List Told → List Net
nets_told library design ts = map (λ t. net_named library design (scale design) t.name) ts
