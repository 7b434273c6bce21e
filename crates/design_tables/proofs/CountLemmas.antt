-- How many marks of a statement have a role under a name.
use Rattle.std.proofs.Common.{◌≡◌, ℕ, ◌+◌, Bool, true, false, cond, if◌then◌else◌, ◌&&◌, List, [], ◌∷◌, ◌++◌, map, refl, sym, ap, ap₂, ◌∙◌, Some, None, arith}
use Rattle.std.specs.Prelude.{count_by, flat_map}
use Rattle.std.specs.Option.{option_to_list}
use Rattle.std.specs.Str.{bytes_eq}
use Rattle.std.proofs.lemmas.List.Sums.{sum_by-append, sum_by-cons}
use Rattle.design_model.specs.declared.identifier.StmtId.{StmtId}
use Rattle.def_grammar.specs.Terminals.{Terminal, is_of_all, is_of_design, is_virtual}
use Rattle.name_groups.specs.Groups.{of_name}
use Rattle.design_tables.specs.Listings.{marks_named}
use Rattle.design_tables.specs.Marks.{same_role, terminal_marks}
use Rattle.design_tables.specs.declared.role.Mark.{Mark}
use Rattle.design_tables.specs.declared.role.Role.{Role}
use Rattle.design_tables.specs.declared.role.Role.TheVariants as roles
use Rattle.design_tables.proofs.RecordLemmas.{has_role}

pub count_both : {X : Type 0} (test : X → Bool) (xs ys : List X) → count_by test (xs ++ ys) ≡ count_by test xs + count_by test ys
count_both test xs ys = sum_by-append (λ x. cond (test x) 1 0) xs ys

module _ (n : List ℕ) (role : Role) where
  pub no_role : (w : List ℕ) (its : Role) → same_role its role ≡ false → count_by (has_role n role) ((w, its) ∷ []) ≡ 0
  no_role w its e = grind (arith, e, sum_by-cons (λ m. cond (has_role n role m) 1 0) (w, its) [])

  pub no_terminals : same_role roles.StarPin role ≡ false → same_role roles.DesignPin role ≡ false → same_role roles.Component role ≡ false → (ts : List Terminal) → count_by (has_role n role) (flat_map terminal_marks ts) ≡ 0
  no_terminals star design component [] = refl
  no_terminals star design component (t ∷ ts) =
      count_both (has_role n role) (terminal_marks t) (flat_map terminal_marks ts) ∙ ap₂ (λ a b. a + b) (by (is_of_all t) (is_of_design t) (is_virtual t)) (no_terminals star design component ts)
    where
      by : (a b c : Bool) → count_by (has_role n role) (option_to_list (if a then Some (t.pin, roles.StarPin) else (if b then Some (t.pin, roles.DesignPin) else (if c then None else Some (t.owner, roles.Component))))) ≡ 0
      by true b c = no_role t.pin roles.StarPin star
      by false true c = no_role t.pin roles.DesignPin design
      by false false true = refl
      by false false false = no_role t.owner roles.Component component

  mark_step : (b c : Bool) (id : StmtId) (m : List ℕ × Role) (ms : List Mark) (k : ℕ) → same_role m.1 role ≡ c → count_by (λ j. same_role j.role role) ms ≡ k
      → count_by (λ j. same_role j.role role) (if b then record { role = m.1; id = id } ∷ ms else ms) ≡ cond (b && c) 1 0 + k
  mark_step true c id m ms k e h = sum_by-cons (λ j. cond (same_role j.role role) 1 0) (record { role = m.1; id = id }) ms ∙ ap₂ (λ b j. cond b 1 0 + j) e h
  mark_step false c id m ms k e h = h ∙ omega arith

  split : (b : Bool) (k : List ℕ × Mark) (ks : List (List ℕ × Mark)) → map (λ (j : List ℕ × Mark). j.1) (if b then k ∷ ks else ks) ≡ (if b then k.1 ∷ map (λ (j : List ℕ × Mark). j.1) ks else map (λ (j : List ℕ × Mark). j.1) ks)
  split true k ks = refl
  split false k ks = refl

  -- marks with a number as marks without
  pub of_marks : (id : StmtId) (ms : List (List ℕ × Role)) → count_by (λ j. same_role j.role role) (marks_named n (map (λ (m : List ℕ × Role). (m.0, record { role = m.1; id = id })) ms)) ≡ count_by (has_role n role) ms
  of_marks id [] = refl
  of_marks id (m ∷ ms) =
      let rest : List (List ℕ × Mark) = map (λ (k : List ℕ × Role). (k.0, record { role = k.1; id = id })) ms in
      ap (count_by (λ j. same_role j.role role)) (split (bytes_eq m.0 n) (m.0, record { role = m.1; id = id }) (of_name (λ (k : List ℕ × Mark). k.0) n rest))
      ∙ mark_step (bytes_eq m.0 n) (same_role m.1 role) id m (marks_named n rest) (count_by (has_role n role) ms) refl (of_marks id ms)
      ∙ sym (sum_by-cons (λ j. cond (has_role n role j) 1 0) m ms)
