-- Edits of a design (own): the cuts that they make in a text, and what they make of its records.
use Rattle.std.specs.Prelude.{ℕ, List, map, Option, Some, None, Result, ℤ, if◌then◌else◌}
use Rattle.std.specs.Str.{bytes_eq}
use Rattle.edit_model.specs.declared.edit.Edit.{Edit}
use Rattle.edit_model.specs.declared.edit.Edit.TheVariants as edits
use Rattle.edit_model.specs.declared.edit.EditCode.{EditCode}
use Rattle.design_model.specs.declared.geometry.Orient.{Orient}
use Rattle.design_model.specs.declared.mode.Section.{Section}
use Rattle.statement_model.specs.Cuts.{Cut}
use Rattle.def_grammar.specs.Components.{Component}
use Rattle.def_grammar.specs.Located.{component_at, entry_at, is_entry, located}
use Rattle.def_grammar.specs.Records.{Entry, component, Record, entry}
use Rattle.lef_grammar.specs.Library.{Library}
use Rattle.edit_rules.specs.ComponentEdits.{ComponentChange, place_at, remaster_as, unplace_it, edited_component, component_plan}
use Rattle.edit_rules.specs.NetEdits.{NetChange, connect_to, disconnect_from, route_by, unroute_all, edited_net, net_plan, section_of_net}
use Rattle.edit_rules.specs.Plans.{Plan, outcome_of}
use Rattle.edit_rules.specs.SectionEdits.{SectionChange, add_blockage, add_component, remove_component, edited_sections, section_plan}
pub use Rattle.edit_rules.specs.Plans.{is_long}

-- an edit, by the group that it is of, with its names as lists of bytes
pub data Change : Type 0 where
  of_component : List ℕ → ComponentChange → Change
  of_net : List ℕ → NetChange → Change
  of_section : SectionChange → Change

pattern abbrev pub place : List ℕ → ℤ → ℤ → Orient → Change
place name x y o = of_component name (place_at x y o)

-- bytes that are borrowed, where they are given
abbrev pub lent : {A : Type 0} → (A → List ℕ) → Option A → Option (List ℕ)
lent now None = None
lent now (Some a) = Some (now a)

-- the edit that a borrowed one is
abbrev pub change_of : Edit → Change
change_of (edits.Place name x y o) = of_component name.now (place_at x y o)
change_of (edits.Unplace name) = of_component name.now unplace_it
change_of (edits.Remaster name cell) = of_component name.now (remaster_as cell.now)
change_of (edits.Connect net owner pin) = of_net net.now (connect_to owner.now pin.now)
change_of (edits.Disconnect net owner pin) = of_net net.now (disconnect_from owner.now pin.now)
change_of (edits.Route net wiring) = of_net net.now (route_by wiring.now)
change_of (edits.Unroute net) = of_net net.now unroute_all
change_of (edits.Add name cell) = of_section (add_component name.now cell.now)
change_of (edits.Remove name) = of_section (remove_component name.now)
change_of (edits.Block layer x1 y1 x2 y2) = of_section (add_blockage (lent (λ l. l.now) layer) x1 y1 x2 y2)

-- the plan of an edit of a text that reads as this design
abbrev pub plan_of : Library → List ℕ → List Record → Change → Plan
plan_of library text design (of_component name change) = component_plan library change (component_at name (located text design))
plan_of library text design (of_net name change) = net_plan library design change (entry_at (section_of_net change name design) name (located text design))
plan_of library text design (of_section change) = section_plan library (located text design) design (λ name. component_at name (located text design)) change

-- its cuts, or why it is refused
abbrev pub cuts_of : Library → List ℕ → List Record → Change → Result (List Cut) EditCode
cuts_of library text design change = outcome_of text (plan_of library text design change)

-- what becomes of an entry where the component of a name becomes another
abbrev pub on_component : List ℕ → (Component → Component) → Entry → Entry
on_component name f (component c) = component (if bytes_eq c.name name then f c else c)
on_component name f other = other

-- and where the entry of a section and a name does
abbrev pub on_named : Section → List ℕ → (Entry → Entry) → Entry → Entry
on_named s name f e = if is_entry s name (Some e) then f e else e

abbrev pub on_entry : (Entry → Entry) → Record → Record
on_entry f (entry e) = entry (f e)
on_entry f other = other

-- the edited design
abbrev pub applied : Change → List Record → List Record
applied (of_component name change) design = map (on_entry (on_component name (edited_component change))) design
applied (of_net name change) design = map (on_entry (on_named (section_of_net change name design) name (edited_net change))) design
applied (of_section change) design = edited_sections change design
