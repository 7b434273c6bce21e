-- A net of which one component is exchanged, as one that lists a pin of all components.
use Rattle.std.specs.Prelude.{◌≡◌, ℕ, Bool, true, not, ◌||◌, List, [], ◌∷◌, ◌++◌, filter}
use Rattle.std.specs.List.{filter_map}
use Rattle.std.specs.Str.{bytes_eq}
use Rattle.def_grammar.specs.Components.{Component}
use Rattle.def_grammar.specs.Records as records
use Rattle.def_grammar.specs.Records.{Record, component_of, entry}
use Rattle.lef_grammar.specs.Library.{Library}
use Rattle.connection_rules.specs.NetParts.{Net, Part, all_nets, net_named}
use Rattle.design_rules.specs.Boxes.{scale}
use Rattle.following_laws.specs.Following.{Exchange}
use Rattle.net_laws.specs.NetsTold.{is_common, is_of_net, pins_of_net, terminals_in}
use Rattle.net_laws.specs.OneNet.{TellNet, names_in}
use Rattle.net_laws.specs.Within.{AreWithin, a_component}

-- a statement tells what a component is to a net: it is the component, an entry of the net, a pin of the design, or of what any net may be
-- made of
abbrev pub tells_of : List ℕ → List ℕ → Record → Bool
tells_of net component (entry (records.component c)) = bytes_eq c.name component
tells_of net component (entry (records.pin p)) = true
tells_of net component r = is_common r || is_of_net net r

-- the pins of parts
abbrev pub pins_in : List Part → List Part
pins_in parts = filter (λ (p : Part). p.is_pin) parts

-- the pins of a net by these statements alone: of components it has those of the one
abbrev pub pins_by_one : Library → List Record → ℕ → List ℕ → List ℕ → List Part
pins_by_one library design u net component = pins_in (net_named library (filter (tells_of net component) design) u net).parts

-- components of a name, and the others
abbrev pub those_named : List ℕ → List Record → List Component
those_named name design = filter (λ (c : Component). bytes_eq c.name name) (filter_map component_of design)

abbrev pub all_but : List ℕ → List Record → List Component
all_but name design = filter (λ (c : Component). not (bytes_eq c.name name)) (filter_map component_of design)

-- two designs agree on what tells a net, but for one component
pub record AgreeBut (a b : List Record) (net component : List ℕ) : Type 0 where
  pub common : filter is_common a ≡ filter is_common b
  pub entries : filter (is_of_net net) a ≡ filter (is_of_net net) b
  pub pins : pins_of_net a net ≡ pins_of_net b net
  pub components : all_but component a ≡ all_but component b

-- Then of the net's parts those pins are exchanged, and the others stay.
pub record PinsAreExchanged (library : Library) (a b : List Record) (u : ℕ) (net component : List ℕ) : Type 0 where
  pub stay : List Part
  pub exchange : Exchange (net_named library a u net).parts (net_named library b u net).parts (pins_by_one library a u net component) (pins_by_one library b u net component) stay
  pub same_power : (net_named library a u net).is_power ≡ (net_named library b u net).is_power

abbrev pub OneComponentExchanged : Type 0
OneComponentExchanged = (library : Library) (a b : List Record) (u : ℕ) (net component : List ℕ) → AgreeBut a b net component → PinsAreExchanged library a b u net component

-- Designs agree so where statements of that component are exchanged, and others of which no net is made,
abbrev pub OneExchangedAgree : Type 0
OneExchangedAgree = (front out put behind : List Record) (component : List ℕ) → AreWithin [] (a_component component) out → AreWithin [] (a_component component) put
    → (net : List ℕ) → AgreeBut (front ++ (out ++ behind)) (front ++ (put ++ behind)) net component

-- also after several such exchanges.
abbrev pub AgreeOnAndOn : Type 0
AgreeOnAndOn = (a b c : List Record) (net component : List ℕ) → AgreeBut a b net component → AgreeBut b c net component → AgreeBut a c net component

-- some statements tell what a component is to a net of a design: their entries of it list the same, and they have none of another
pub record TellOne (some design : List Record) (net component : List ℕ) : Type 0 where
  pub common : filter is_common some ≡ filter is_common design
  pub terminals : terminals_in some net ≡ terminals_in design net
  pub pins : pins_of_net some net ≡ pins_of_net design net
  pub components : filter_map component_of some ≡ those_named component design
  pub only : names_in some ≡ net ∷ []

-- Then that net is their only one, in the same scale, and its pins are those by the component.
pub record ArePinsTold (library : Library) (some design : List Record) (net component : List ℕ) : Type 0 where
  pub same_scale : scale some ≡ scale design
  pub told : Net
  pub nets : all_nets library some (scale some) ≡ told ∷ []
  pub pins : pins_in told.parts ≡ pins_by_one library design (scale design) net component

abbrev pub OneComponentIsTold : Type 0
OneComponentIsTold = (library : Library) (some design : List Record) (net component : List ℕ) → TellOne some design net component → ArePinsTold library some design net component

-- A net that has an entry is told by some statements.
abbrev pub EntriesTell : Type 0
EntriesTell = (design : List Record) (net : List ℕ) (e : Record) (es : List Record) → filter (is_of_net net) design ≡ e ∷ es → (some : List Record) × TellNet some design net
