-- The one of a name is found among the first of each name as it is among all.
use Rattle.std.proofs.Common.{◌≡◌, ℕ, Bool, true, false, ◌||◌, List, [], ◌∷◌, ◌++◌, Option, Some, None, refl, sym, ap, ◌∙◌, if◌then◌else◌, arith}
use Rattle.std.specs.List.{filter_map, list_any}
use Rattle.std.specs.Option.{option_map, option_or}
use Rattle.std.specs.Str.{bytes_eq}
use Rattle.std.proofs.lemmas.Slice.Eq.{bytes_eq-Decides}
use Rattle.form_meanings.specs.Firsts.{find_named, has_name, with_all, with_first}
use Rattle.def_grammar.specs.Rules.{Rule, layer_of_rule}
use Rattle.net_rules.specs.Widths.{def_rule_width}
use Rattle.design_wires.specs.RuleLayers.{first_width, layer_name, width_of}

same_bytes : (a b : List ℕ) → bytes_eq a b ≡ true → a ≡ b
same_bytes a b t = grind (arith, bytes_eq-Decides)

module _ {C : Type 0} (name_in : C → List ℕ) where
  last_step : (b : Bool) (c : C) (r p q : Option C) → r ≡ option_or p q → (if b then Some c else r) ≡ option_or (if b then Some c else p) q
  last_step true c r p q h = refl
  last_step false c r p q h = h

  found_last : (cs : List C) (a : C) (name : List ℕ) → find_named name_in (cs ++ a ∷ []) name ≡ option_or (find_named name_in cs name) (find_named name_in (a ∷ []) name)
  found_last [] a name = refl
  found_last (c ∷ cs) a name =
      last_step (has_name name_in name c) c (find_named name_in (cs ++ a ∷ []) name) (find_named name_in cs name) (find_named name_in (a ∷ []) name) (found_last cs a name)

  there_step : (b : Bool) (c : C) (t : Bool) (p q r : Option C) → (b || t) ≡ true → (t ≡ true → option_or p q ≡ option_or p r)
      → option_or (if b then Some c else p) q ≡ option_or (if b then Some c else p) r
  there_step true c t p q r h k = refl
  there_step false c t p q r h k = k h

  there : (cs : List C) (name : List ℕ) → list_any (has_name name_in name) cs ≡ true → (q r : Option C) → option_or (find_named name_in cs name) q ≡ option_or (find_named name_in cs name) r
  there [] name h q r = cc
  there (c ∷ cs) name h q r =
      there_step (has_name name_in name c) c (list_any (has_name name_in name) cs) (find_named name_in cs name) q r h (λ t. there cs name t q r)

  or_step : (b : Bool) (a : C) (p more : Option C) → option_or (option_or p (if b then Some a else None)) more ≡ option_or p (if b then Some a else more)
  or_step true a None more = refl
  or_step true a (Some c) more = refl
  or_step false a None more = refl
  or_step false a (Some c) more = refl

  or_none : (p : Option C) → option_or p None ≡ p
  or_none None = refl
  or_none (Some c) = refl

  module _ (cs : List C) (a : C) (name : List ℕ) (more : Option C) where
    taken : (b : Bool) → has_name name_in name a ≡ b → list_any (has_name name_in (name_in a)) cs ≡ true
        → option_or (find_named name_in cs name) more ≡ option_or (find_named name_in cs name) (if b then Some a else more)
    taken false h e = refl
    taken true h e = there cs name (ap (λ n. list_any (has_name name_in n) cs) (sym (same_bytes (name_in a) name h)) ∙ e) more (Some a)

    first_by : (t : Bool) → list_any (has_name name_in (name_in a)) cs ≡ t
        → option_or (find_named name_in (if t then cs else cs ++ a ∷ []) name) more ≡ option_or (find_named name_in cs name) (if has_name name_in name a then Some a else more)
    first_by false e =
        ap (λ (o : Option C). option_or o more) (found_last cs a name) ∙ or_step (has_name name_in name a) a (find_named name_in cs name) more
    first_by true e = taken (has_name name_in name a) refl e

  pub firsts_found : (cs all : List C) (name : List ℕ) → find_named name_in (with_all name_in cs all) name ≡ option_or (find_named name_in cs name) (find_named name_in all name)
  unfolding with_all
  firsts_found cs [] name = sym (or_none (find_named name_in cs name))
  firsts_found cs (a ∷ all) name =
      firsts_found (with_first name_in cs a) all name
      ∙ first_by cs a name (find_named name_in all name) (list_any (has_name name_in (name_in a)) cs) refl

pub first_is_rule_width : (layer : List ℕ) (r : Rule) → first_width layer r.clauses ≡ def_rule_width layer r
first_is_rule_width layer r = sym (ap (λ o. option_map width_of o) (firsts_found layer_name [] (filter_map layer_of_rule r.clauses) layer))
