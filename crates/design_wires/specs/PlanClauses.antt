-- What clauses of VIAS say of a generated via, one after the other: the first of each kind counts.
use Rattle.std.specs.Prelude.{ℕ, ℤ, List, Option, Some, None}
use Rattle.std.specs.Option.{option_map}
use Rattle.design_model.specs.declared.geometry.Point.{Point}
use Rattle.form_meanings.specs.Firsts.{first_of}
use Rattle.def_grammar.specs.DefVias.{ViaClause, layers_of_clause}
use Rattle.net_rules.specs.ViaRectangles.{Metals, array_of_clause, enclosure_of_clause, layer_names, offset_of_clause, origin_of_clause, size_of_clause, spacing_of_clause}
use Rattle.cell_library.specs.ViaViews.{array_view, names_view}
use Rattle.design_wires.specs.PlanViews.{metals_view}
use Rattle.design_wires.specs.declared.via_plan.ViaPlan.{ViaPlan}

-- by its second argument, so that what a clause says nothing of stays by computing
abbrev pub first_said : {A : Type 0} → Option A → Option A → Option A
first_said before None = before
first_said None (Some now) = Some now
first_said (Some before) (Some now) = Some before

pub record Said : Type 0 where
  pub cut_size : Option Point
  pub layers : Option (List ℕ × (List ℕ × List ℕ))
  pub cut_spacing : Option Point
  pub enclosure : Option Metals
  pub array : Option (ℤ × ℤ)
  pub origin : Option Point
  pub offset : Option Metals

abbrev pub all_said : Said → Said → Said
all_said before now = record {
  cut_size = first_said before.cut_size now.cut_size;
  layers = first_said before.layers now.layers;
  cut_spacing = first_said before.cut_spacing now.cut_spacing;
  enclosure = first_said before.enclosure now.enclosure;
  array = first_said before.array now.array;
  origin = first_said before.origin now.origin;
  offset = first_said before.offset now.offset;
}

abbrev pub said_in : ViaPlan → Said
said_in p = record {
  cut_size = p.cut_size;
  layers = option_map names_view p.layers;
  cut_spacing = p.cut_spacing;
  enclosure = option_map metals_view p.enclosure;
  array = option_map array_view p.array;
  origin = p.origin;
  offset = option_map metals_view p.offset;
}

abbrev pub said_by : ViaClause → Said
said_by clause = record {
  cut_size = size_of_clause clause;
  layers = option_map layer_names (layers_of_clause clause);
  cut_spacing = spacing_of_clause clause;
  enclosure = enclosure_of_clause clause;
  array = array_of_clause clause;
  origin = origin_of_clause clause;
  offset = offset_of_clause clause;
}

abbrev pub firsts_said : List ViaClause → Said
firsts_said clauses = record {
  cut_size = first_of size_of_clause clauses;
  layers = option_map layer_names (first_of layers_of_clause clauses);
  cut_spacing = first_of spacing_of_clause clauses;
  enclosure = first_of enclosure_of_clause clauses;
  array = first_of array_of_clause clauses;
  origin = first_of origin_of_clause clauses;
  offset = first_of offset_of_clause clauses;
}
