-- One net of a design, which few statements tell.
use Rattle.std.specs.Prelude.{◌≡◌, ℕ, Bool, true, false, List, [], ◌∷◌, filter}
use Rattle.std.specs.List.{filter_map}
use Rattle.std.specs.Str.{bytes_eq}
use Rattle.form_meanings.specs.Firsts.{with_all}
use Rattle.def_grammar.specs.Records as records
use Rattle.def_grammar.specs.Records.{Record, entry}
use Rattle.lef_grammar.specs.Library.{Library}
use Rattle.connection_rules.specs.NetParts.{all_nets, net_named}
use Rattle.design_rules.specs.Boxes.{scale}
use Rattle.net_laws.specs.NetsTold.{AgreeOnNet, is_of_net, net_of_record, pins_of_net, terminals_in}

-- the names of the nets that statements are entries of, each once
abbrev pub names_in : List Record → List (List ℕ)
names_in some = with_all (λ name. name) [] (filter_map net_of_record some)

-- some statements tell a net of a design: they agree with it on what tells the net, and have entries of it and of no other
pub record TellNet (some design : List Record) (net : List ℕ) : Type 0 where
  pub agree : AgreeOnNet some design net
  pub only : names_in some ≡ net ∷ []

-- Then that net is their only one, in the same scale.
pub record IsNetTold (library : Library) (some design : List Record) (net : List ℕ) : Type 0 where
  pub same_scale : scale some ≡ scale design
  pub nets : all_nets library some (scale some) ≡ net_named library design (scale design) net ∷ []

abbrev pub OneNetIsTold : Type 0
OneNetIsTold = (library : Library) (some design : List Record) (net : List ℕ) → TellNet some design net → IsNetTold library some design net

-- a name is that of a net
abbrev pub is_net : List ℕ → List ℕ → Bool
is_net net name = bytes_eq name net

-- a statement is a pin of the design
abbrev pub is_of_pins : Record → Bool
is_of_pins (entry (records.pin p)) = true
is_of_pins _ = false

-- The entries of a net have one name, where it has any: it may have one in NETS and one in SPECIALNETS.
abbrev pub EntriesNameOneNet : Type 0
EntriesNameOneNet = (design : List Record) (net : List ℕ) (e : Record) (es : List Record) → filter (is_of_net net) design ≡ e ∷ es → names_in (filter (is_of_net net) design) ≡ net ∷ []

-- Statements that have all pins of a design have those of each net,
abbrev pub AllPinsTell : Type 0
AllPinsTell = (some design : List Record) (net : List ℕ) → terminals_in some net ≡ terminals_in design net → filter is_of_pins some ≡ filter is_of_pins design
    → pins_of_net some net ≡ pins_of_net design net

-- and so have those whose pins are the net's alone: whoever tells a net may take either.
abbrev pub OwnPinsTell : Type 0
OwnPinsTell = (some design : List Record) (net : List ℕ) → terminals_in some net ≡ terminals_in design net → filter is_of_pins some ≡ pins_of_net design net
    → pins_of_net some net ≡ pins_of_net design net
