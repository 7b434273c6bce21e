-- Pins that are put one after the other by a walk over one library.
use Rattle.std.specs.Prelude.{◌≡◌, ◌<◌, List, length}
use Rattle.lef_grammar.specs.Library.{Library}
use Rattle.statement_model.specs.Grammar.{Key}
use Rattle.connection_rules.specs.NetParts.{Net}
use Rattle.connection_rules.specs.Terminals.{NetPin}
use Rattle.net_pins.specs.Counting.{with_pins}

-- the library in which a walk looks up layers and pins of macros, and the words of the pins that it saw
pub record Walk : Type 0 where
  pub layers : Library
  pub seen : List Key

-- there is a net, and the walk looks up in this library
pub record IsReady (library : Library) (walk : Walk) (nets : List Net) : Type 0 where
  pub net : 0 < length nets
  pub known : walk.layers ≡ library

-- of all pins these are left to be put
pub record PutsPins (all : List NetPin) (seen : List Key) (nets : List Net) (left : List NetPin) (library : Library) (walk : Walk) (nets_now : List Net) : Type 0 where
  pub same : with_pins left (walk.seen, nets_now) ≡ with_pins all (seen, nets)
  pub ready : IsReady library walk nets_now
