-- The clauses of a net, passed one by one: what their wires name is listed, and the first rule is noted.
use Rattle.std.proofs.Common.{◌≡◌, ◌≤◌, ◌+◌, ℕ, List, [], ◌∷◌, ◌++◌, flat_map, length, Option, Some, None, refl, sym, ap, ◌∙◌, append_assoc, length-append, take, drop, map, arith}
use Rattle.std.proofs.lemmas.Grind.{flat_map-append}
use Rattle.std.proofs.lemmas.List.{append-nil, drop-map, length-map, map-append, take-map}
use Rattle.std.proofs.Math.Seq.{drop-append_seam, take-append_seam}
use Rattle.std.specs.List.{insert}
use Rattle.std.specs.Option.{option_map, option_or, option_to_list}
use Rattle.form_meanings.specs.Firsts.{first_of}
use Rattle.def_grammar.specs.Nets.{NetClause, net_subnet, net_use, net_rule, net_wiring, net_kept, rule_of_clause}
use Rattle.def_grammar.specs.NetWires.{wires_of}
use Rattle.entry_rules.specs.References.{Reference, to_rule, wire_references}
use Rattle.entry_references.specs.declared.reference.Reference as code
use Rattle.entry_references.specs.ReferenceViews.{reference_view, references_view}

abbrev of_clauses : List NetClause → List Reference
of_clauses clauses = flat_map wire_references (flat_map wires_of clauses)

-- of all clauses these are left: what the wires of the others name was listed after what was there before, and their first rule is noted
pub record Walked (before now : List Reference) (rule : Option (List ℕ)) (left all : List NetClause) : Type 0 where
  pub listed : now ++ of_clauses left ≡ before ++ of_clauses all
  pub noted : option_or rule (first_of rule_of_clause left) ≡ first_of rule_of_clause all

first_rules : (c : NetClause) (later : List NetClause) → first_of rule_of_clause (c ∷ later) ≡ option_or (rule_of_clause c) (first_of rule_of_clause later)
first_rules (net_subnet tokens) later = refl
first_rules (net_use word) later = refl
first_rules (net_rule name) later = refl
first_rules (net_wiring w) later = refl
first_rules (net_kept c) later = refl

or_later : {A : Type 0} (a b c : Option A) → option_or (option_or a b) c ≡ option_or a (option_or b c)
or_later None b c = refl
or_later (Some a) b c = refl

or_none : {A : Type 0} (a : Option A) → option_or a None ≡ a
or_none None = refl
or_none (Some a) = refl

module _ (before now : List Reference) (rule : Option (List ℕ)) (left all : List NetClause) (p : Walked before now rule left all) where
  pub walked_on : (c : NetClause) (later : List NetClause) (after : List Reference) (new : Option (List ℕ)) → left ≡ c ∷ later
      → after ≡ now ++ flat_map wire_references (wires_of c) → new ≡ option_or rule (rule_of_clause c) → Walked before after new later all
  walked_on c later after new is pushed says = record {
    listed =
        ap (λ (z : List Reference). z ++ of_clauses later) pushed
        ∙ append_assoc now (flat_map wire_references (wires_of c)) (of_clauses later)
        ∙ ap (λ (z : List Reference). now ++ z) (sym (flat_map-append wire_references (wires_of c) (flat_map wires_of later)))
        ∙ ap (λ (z : List NetClause). now ++ of_clauses z) (sym is) ∙ p.listed;
    noted =
        ap (λ (o : Option (List ℕ)). option_or o (first_of rule_of_clause later)) says
        ∙ or_later rule (rule_of_clause c) (first_of rule_of_clause later)
        ∙ ap (option_or rule) (sym (first_rules c later))
        ∙ ap (λ (z : List NetClause). option_or rule (first_of rule_of_clause z)) (sym is) ∙ p.noted;
  }

  pub all_walked : left ≡ [] → now ≡ before ++ of_clauses all
  all_walked is = sym (append-nil now) ∙ ap (λ (z : List NetClause). now ++ of_clauses z) (sym is) ∙ p.listed

  pub all_noted : left ≡ [] → rule ≡ first_of rule_of_clause all
  all_noted is = sym (or_none rule) ∙ ap (λ (z : List NetClause). option_or rule (first_of rule_of_clause z)) (sym is) ∙ p.noted

-- references were added behind some, and one is put between
module _ (before now : List code.Reference) (more : List Reference) (is : references_view now ≡ references_view before ++ more) where
  pub within : length before ≤ length now
  within =
      let e : length now ≡ length before + length more =
      sym (length-map now reference_view) ∙ ap (λ (z : List Reference). length z) is ∙ length-append (references_view before) more ∙ rw (length-map before reference_view) refl in
      rw e (omega arith)

  first_ones : map reference_view (take (length before) now) ≡ references_view before
  first_ones =
      sym (take-map reference_view (length before) now)
      ∙ ap (λ (z : List Reference). take (length before) z) is
      ∙ rw (sym (length-map before reference_view)) (take-append_seam (references_view before) more)

  later_ones : map reference_view (drop (length before) now) ≡ more
  later_ones =
      sym (drop-map reference_view (length before) now)
      ∙ ap (λ (z : List Reference). drop (length before) z) is
      ∙ rw (sym (length-map before reference_view)) (drop-append_seam (references_view before) more)

  pub put_between : (r : code.Reference) → references_view (insert now (length before) r) ≡ references_view before ++ (reference_view r ∷ more)
  put_between r =
      map-append reference_view (take (length before) now) (r ∷ drop (length before) now)
      ∙ ap (λ (z : List Reference). z ++ (reference_view r ∷ map reference_view (drop (length before) now))) first_ones
      ∙ ap (λ (z : List Reference). references_view before ++ (reference_view r ∷ z)) later_ones

  -- the first rule of a net
  pub rule_put : (after : List code.Reference) (place : ℕ) (rule : code.Reference) (name : List ℕ) (first : Option (List ℕ)) → place ≡ length before → after ≡ insert now place rule
      → reference_view rule ≡ to_rule name → Some name ≡ first → references_view after ≡ references_view before ++ (option_to_list (option_map to_rule first) ++ more)
  rule_put after place rule name first at made named found =
      rw (made, at)
      (put_between rule
      ∙ ap (λ (z : Reference). references_view before ++ (z ∷ more)) named
      ∙ ap (λ (o : Option (List ℕ)). references_view before ++ (option_to_list (option_map to_rule o) ++ more)) found)
