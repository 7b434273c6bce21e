-- What clauses say of a generated via, one after the other, is what the first of each kind says.
use Rattle.std.proofs.Common.{◌≡◌, List, [], ◌∷◌, Option, Some, None, refl, sym, ◌∙◌, ap}
use Rattle.std.specs.List.{cons_option, filter_map}
use Rattle.std.specs.Option.{option_map}
use Rattle.form_meanings.specs.Words.{first}
use Rattle.def_grammar.specs.DefVias.{ViaClause, layers_of_clause}
use Rattle.net_rules.specs.ViaRectangles.{array_of_clause, enclosure_of_clause, layer_names, offset_of_clause, origin_of_clause, size_of_clause, spacing_of_clause}
use Rattle.design_wires.specs.PlanClauses.{Said, all_said, first_said, firsts_said, said_by, said_in}
use Rattle.design_wires.specs.PlanViews.{IsPlan}
use Rattle.design_wires.specs.declared.via_plan.ViaPlan.{ViaPlan}

said_thrice : {A : Type 0} (o p q : Option A) → first_said (first_said o p) q ≡ first_said o (first_said p q)
said_thrice o p None = refl
said_thrice o None (Some c) = refl
said_thrice None (Some b) (Some c) = refl
said_thrice (Some a) (Some b) (Some c) = refl

cons_said : {B : Type 0} (o : Option B) (bs : List B) → first (cons_option o bs) ≡ first_said o (first bs)
cons_said None [] = refl
cons_said None (b ∷ bs) = refl
cons_said (Some a) [] = refl
cons_said (Some a) (b ∷ bs) = refl

cons_map : {B C : Type 0} (h : B → C) (o : Option B) (bs : List B) → option_map h (first (cons_option o bs)) ≡ first_said (option_map h o) (option_map h (first bs))
cons_map h None [] = refl
cons_map h None (b ∷ bs) = refl
cons_map h (Some a) [] = refl
cons_map h (Some a) (b ∷ bs) = refl

all_said_thrice : (s t u : Said) → all_said (all_said s t) u ≡ all_said s (all_said t u)
all_said_thrice s t u =
    rw (
      said_thrice s.cut_size t.cut_size u.cut_size,
      said_thrice s.layers t.layers u.layers,
      said_thrice s.cut_spacing t.cut_spacing u.cut_spacing,
      said_thrice s.enclosure t.enclosure u.enclosure,
      said_thrice s.array t.array u.array,
      said_thrice s.origin t.origin u.origin,
      said_thrice s.offset t.offset u.offset,
    ) refl

one_more : (c : ViaClause) (left : List ViaClause) → firsts_said (c ∷ left) ≡ all_said (said_by c) (firsts_said left)
one_more c left =
    rw (
      cons_said (size_of_clause c) (filter_map size_of_clause left),
      cons_map layer_names (layers_of_clause c) (filter_map layers_of_clause left),
      cons_said (spacing_of_clause c) (filter_map spacing_of_clause left),
      cons_said (enclosure_of_clause c) (filter_map enclosure_of_clause left),
      cons_said (array_of_clause c) (filter_map array_of_clause left),
      cons_said (origin_of_clause c) (filter_map origin_of_clause left),
      cons_said (offset_of_clause c) (filter_map offset_of_clause left),
    ) refl

-- what the plan holds, and then the clauses that are left, say what all of them say
pub record Going (p : ViaPlan) (left all : List ViaClause) : Type 0 where
  pub said : all_said (said_in p) (firsts_said left) ≡ firsts_said all
  pub in_range : IsPlan p

pub stepped : (p q : ViaPlan) (c : ViaClause) (now left all : List ViaClause) → Going p now all → now ≡ c ∷ left → said_in q ≡ all_said (said_in p) (said_by c) → IsPlan q
    → Going q left all
stepped p q c now left all g e s r = record {
  said =
      ap (λ t. all_said t (firsts_said left)) s ∙ all_said_thrice (said_in p) (said_by c) (firsts_said left) ∙ ap (all_said (said_in p)) (sym (one_more c left))
      ∙ ap (λ cs. all_said (said_in p) (firsts_said cs)) (sym e) ∙ g.said;
  in_range = r;
}
