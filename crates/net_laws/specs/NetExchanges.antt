-- The nets of a design, where statements go out of it and others come in at their place.
use Rattle.std.specs.Prelude.{◌≡◌, ℕ, Bool, false, not, ◌||◌, List, [], ◌++◌, filter, length, map}
use Rattle.std.specs.List.{list_any}
use Rattle.std.specs.Str.{bytes_eq}
use Rattle.design_model.specs.declared.mode.Section.TheVariants.{Nets, SpecialNets}
use Rattle.def_grammar.specs.Records as records
use Rattle.def_grammar.specs.Records.{Record, entry}
use Rattle.def_grammar.specs.Terminals.{Terminal, is_of_all}
use Rattle.lef_grammar.specs.Library.{Library}
use Rattle.connection_rules.specs.NetLines.{net_lines}
use Rattle.connection_rules.specs.NetParts.{Net, all_nets, net_named, net_names}
use Rattle.design_rules.specs.Boxes.{scale}
use Rattle.edit_rules.specs.SectionEdits.{entries_in}
use Rattle.following_laws.specs.Following.{Exchange}
use Rattle.net_laws.specs.NetsTold.{is_common, is_named_or_listed, is_of_net, terminals_in}

-- the nets of a design whose names pass a test
abbrev pub nets_where : Library → List Record → ℕ → (List ℕ → Bool) → List Net
nets_where library design u test = map (net_named library design u) (filter test (net_names library design u))

-- a terminal finds the component of a name: it names it, or all
abbrev pub finds : List ℕ → Terminal → Bool
finds name t = is_of_all t || bytes_eq t.owner name

-- a statement touches a net of a design: it is an entry of the net, a component that the net lists, or a pin that it lists or that names it
abbrev pub touches : List Record → List ℕ → Record → Bool
touches design net (entry (records.component c)) = list_any (finds c.name) (terminals_in design net)
touches design net (entry (records.pin p)) = is_named_or_listed net (terminals_in design net) p
touches design net r = is_of_net net r

-- none of some statements is common to all nets, and a test passes each net of a design that one of them touches
pub record TouchOnly (design some : List Record) (test : List ℕ → Bool) : Type 0 where
  pub none_common : list_any is_common some ≡ false
  pub passes : (net : List ℕ) → test net ≡ false → list_any (touches design net) some ≡ false

-- Then the nets that pass the test are exchanged, and the others stay.
abbrev pub NetsAreExchanged : Type 0
NetsAreExchanged = (library : Library) (front out put behind : List Record) (test : List ℕ → Bool) → let old = front ++ (out ++ behind) in let new = front ++ (put ++ behind) in
    TouchOnly old out test → TouchOnly old put test → (u : ℕ)
    → Exchange (all_nets library old u) (all_nets library new u) (nets_where library old u test) (nets_where library new u test) (nets_where library old u (λ net. not (test net)))

-- A design without entries of NETS and SPECIALNETS has no lines on nets.
abbrev pub NoNetsNoLines : Type 0
NoNetsNoLines = (library : Library) (design : List Record) → length (entries_in Nets design) ≡ 0 → length (entries_in SpecialNets design) ≡ 0 → net_lines library design (scale design) ≡ []
