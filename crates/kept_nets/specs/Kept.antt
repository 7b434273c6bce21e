-- What is kept of a net beside its parts.
use Rattle.std.specs.Prelude.{◌≡◌, ◌≤◌, ℕ, List, Option, IfSome}
use Rattle.lef_grammar.specs.Measures.{Shape}
use Rattle.connection_rules.specs.NetLines.{is_drawn}
use Rattle.connection_rules.specs.NetParts.{Part}
use Rattle.connection_rules.specs.PartClasses.{with_pins, without_pins}
use Rattle.line_laws.specs.Lines.{SameThings}
use Rattle.net_classes.specs.declared.class_lines.NetClasses.{NetClasses}
use Rattle.net_queries.specs.Held.{shapes_from}
use Rattle.kept_nets.specs.NearParts.{near_themselves}

-- shapes are those of parts, each under its part's place
pub record AreShapesOf (ps : List Part) (shapes : List (ℕ × Shape)) : Type 0 where
  pub same : SameThings shapes (shapes_from 0 ps)

-- parts hang together in so many classes
pub record HangAs (ps : List Part) (c : NetClasses) : Type 0 where
  pub holding : c.counts.holding ≡ with_pins ps
  pub bare : c.counts.bare ≡ without_pins ps
  pub drawn : c.is_drawn ≡ is_drawn ps

-- what is known of parts is so, and so many of their shapes at least are near themselves
pub record AreKnown (ps : List Part) (shapes : Option (List (ℕ × Shape))) (classes : Option NetClasses) (sure : ℕ) : Type 0 where
  pub shapes_are : IfSome shapes (AreShapesOf ps)
  pub classes_are : IfSome classes (HangAs ps)
  pub sure_are : sure ≤ near_themselves ps
