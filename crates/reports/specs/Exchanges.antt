-- What becomes of the answers on a design where the shapes of one net are exchanged, or the box of one component.
use Rattle.std.specs.Prelude.{◌≡◌, ℕ, ◌+◌, List, Option, Some, if◌then◌else◌}
use Rattle.std.specs.Str.{bytes_eq}
use Rattle.design_model.specs.Geometry.{Rectangle}
use Rattle.lef_grammar.specs.Measures.{Shape}
use Rattle.reports.specs.Answers.{Answers, box_in, length_in}
use Rattle.reports.specs.Densities.{HasExchanged, box_shapes}

-- the net of a name has this length and this box, in the place of an old length; each other net has what it had
pub record NetExchanged (name : List ℕ) (old_length new_length : ℕ) (gone come : List Shape) (bounds : Option Rectangle) (old new : Answers) : Type 0 where
  pub layers : new.layers ≡ old.layers
  pub net_length : (n : List ℕ) → length_in new n ≡ (if bytes_eq name n then Some new_length else length_in old n)
  pub net_box : (n : List ℕ) → box_in new n ≡ (if bytes_eq name n then Some bounds else box_in old n)
  pub total_length : new.total_length + old_length ≡ old.total_length + new_length
  pub cells : HasExchanged gone come old.cells new.cells
  pub place_cells : new.place_cells ≡ old.place_cells

-- a component has another box, or none any more, or now has one
pub record ComponentExchanged (gone come : Option Rectangle) (old new : Answers) : Type 0 where
  pub layers : new.layers ≡ old.layers
  pub nets : new.nets ≡ old.nets
  pub total_length : new.total_length ≡ old.total_length
  pub cells : new.cells ≡ old.cells
  pub place_cells : HasExchanged (box_shapes gone) (box_shapes come) old.place_cells new.place_cells
