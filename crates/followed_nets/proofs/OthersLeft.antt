-- What an edit leaves, from what its statements are.
use Rattle.std.proofs.Common.{◌≡◌, ◌∙◌, ◌||◌, ℕ, Bool, true, false, List, [], ◌++◌, Option, Some, None, Result, Ok, Err, refl, sym, ap, subst}
use Rattle.std.specs.Prelude.{IfOk}
use Rattle.std.specs.Str.{bytes_eq}
use Rattle.std.proofs.lemmas.List.Folds.{list_any-append}
use Rattle.def_grammar.specs.Records.{Record}
use Rattle.net_laws.specs.NetChanges.{is_one_of}
use Rattle.net_laws.specs.Within.{NoOtherLists, a_component, pin_in}
use Rattle.followed_nets.specs.Touched.{Touched, star_names, subject_by}
use Rattle.followed_nets.specs.Within.{Cover, Leaves, LeavesOthers}

pub if_ok : {A E : Type 0} (P Q : A → Type 0) (r : Result A E) → ((a : A) → P a → Q a) → IfOk r P → IfOk r Q
if_ok P Q (Ok a) f h = f a h
if_ok P Q (Err e) f h = tt

-- a pin is one in what an edit is of
pub no_pin_in : (pin : Option (List ℕ)) → pin ≡ None → pin_in (subject_by None pin) ≡ None
no_pin_in None is = refl
no_pin_in (Some p) is = absurd (cc)

cover_none : (more : List (List ℕ)) → Cover more []
cover_none more net is = absurd (cc)

cover_more : (nets more : List (List ℕ)) → Cover (nets ++ more) nets
cover_more nets more net is = list_any-append (λ n. bytes_eq n net) nets more ∙ ap (λ (b : Bool). b || is_one_of more net) is

module _ (old new : List Record) (t : Touched) (lists : NoOtherLists old (t.names ++ star_names t.stars) (subject_by t.component t.pin)) where
  pub by_component : (name : List ℕ) → t.component ≡ Some name → Leaves old new [] (a_component name) → LeavesOthers old new t
  by_component name is left = record {
    apart = (left.apart (t.names ++ star_names t.stars) (cover_none (t.names ++ star_names t.stars)) (subst (λ (c : Option (List ℕ)). NoOtherLists old (t.names ++ star_names t.stars) (subject_by c t.pin)) is lists)).0;
    but = λ own net own_is. left.but own net refl (ap a_component (one_of_both name own (sym is ∙ own_is)));
    no_stars = left.no_stars;
  }
    where
      one_of_both : (a b : List ℕ) → Some a ≡ Some b → a ≡ b
      one_of_both a b both = cc

  pub by_nets : t.component ≡ None → Leaves old new t.names (subject_by None t.pin) → LeavesOthers old new t
  by_nets is left = record {
    apart = (left.apart (t.names ++ star_names t.stars) (cover_more t.names (star_names t.stars)) (subst (λ (c : Option (List ℕ)). NoOtherLists old (t.names ++ star_names t.stars) (subject_by c t.pin)) is lists)).0;
    but = λ own net own_is. absurd (differ t.component is own_is);
    no_stars = left.no_stars;
  }
    where
      differ : {own : List ℕ} (c : Option (List ℕ)) → c ≡ None → c ≡ Some own → ⊥
      differ None h g = cc
      differ (Some n) h g = cc
