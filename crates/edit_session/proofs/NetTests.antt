-- Nets that an edit touches, and how many pairs of their shapes are compared.
use Rattle.std.proofs.Common.{◌≡◌, ◌≤◌, ◌+◌, ℕ, Bool, true, false, ◌||◌, List, [], ◌∷◌, ◌++◌, append-nil, Option, Some, None, Result, Ok, Err, refl, sym, ap, ◌∙◌, arith}
use Rattle.std.specs.Prelude.{IfOk, IfSome}
use Rattle.std.specs.Str.{bytes_eq}
use Rattle.def_grammar.specs.Records.{Record}
use Rattle.lef_grammar.specs.Library.{Library}
use Rattle.connection_rules.specs.NetLines.{barriers}
use Rattle.design_rules.specs.Boxes.{scale}
use Rattle.net_laws.specs.NetChanges.{is_one_of}
use Rattle.followed_nets.specs.Listed.{AllList, AllOfPin, AreApart}
use Rattle.followed_nets.specs.Tests.{FewTests}
use Rattle.followed_nets.specs.Touched.{Touched, star_names}
use Rattle.edit_rules.specs.Edits.{change_of}
use Rattle.edit_session.specs.declared.change.Change as session
use Rattle.edit_session.specs.declared.change.Change.TheVariants.{Design, Text}
use Rattle.edit_session.proofs.ApartBars.{exchanged_apart}
use Rattle.edit_session.specs.Tests.{FewShapes, IsSubject, Subject, TouchesOnly, one_component, one_net, one_pin, subject_of}

or_false : (b : Bool) → (b || false) ≡ true → b ≡ true
or_false true e = refl
or_false false e = cc

-- one net is touched by an edit of it
pub one_is_touched : (design : List Record) (net : List ℕ) (t : Touched) → (t.names ≡ net ∷ []) × (t.stars ≡ []) × (t.component ≡ None) → TouchesOnly design (Some (one_net net)) t
one_is_touched design net t told name among =
    let all : t.names ++ star_names t.stars ≡ net ∷ [] = rw (told.0, told.1) refl in
    or_false (bytes_eq net name) (sym (ap (λ ns. is_one_of ns name) all) ∙ among)

-- and those that list a component by one of that
pub each_is_touched : (design : List Record) (component : List ℕ) (t : Touched) → AllList design component (t.names ++ star_names t.stars) × (t.component ≡ Some component) → TouchesOnly design (Some (one_component component)) t
each_is_touched design component t told name among = told.0 name among

-- and those that a pin of the design is of by one of that
pub of_pin_are_touched : (design : List Record) (pin : List ℕ) (t : Touched) → AllOfPin design pin t.names × (t.stars ≡ []) × (t.component ≡ None) → TouchesOnly design (Some (one_pin pin)) t
of_pin_are_touched design pin t told name among =
    let all : t.names ++ star_names t.stars ≡ t.names = rw (told.1) (append-nil t.names) in
    told.0 name (sym (ap (λ ns. is_one_of ns name) all) ∙ among)

-- of what is found, if anything
pub found : {A E : Type 0} (P Q : A → Type 0) (r : Result (Option A) E) → ((a : A) → P a → Q a) → IfOk r (λ f. IfSome f P) → IfOk r (λ f. IfSome f Q)
found P Q (Ok (Some a)) law h = law a h
found P Q (Ok None) law h = tt
found P Q (Err e) law h = tt

pub none_compared : (library : Library) (old new : List Record) (subject : Option Subject) (tests : ℕ) → tests ≡ 0 → FewShapes library old new subject tests
none_compared library old new subject tests none =
    let changed = exchanged_apart (barriers library old (scale old)) (barriers library new (scale new)) in
    record {
      nets = [];
      apart = tt;
      are_touched = λ name among. absurd (cc);
      few = record {
        gone = changed.0;
        come = changed.1;
        changed = record { same = changed.2 };
        apart = changed.3;
        few = omega (arith, none);
      };
    }

pub few_shapes : (library : Library) (old new : List Record) (subject : Option Subject) (t : Touched) (tests : ℕ) → AreApart (t.names ++ star_names t.stars) → TouchesOnly old subject t
    → FewTests library old new (t.names ++ star_names t.stars) tests → FewShapes library old new subject tests
few_shapes library old new subject t tests apart touched few = record { nets = t.names ++ star_names t.stars; apart = apart; are_touched = touched; few = few }

-- no net is touched by what touches none
pub none_is_touched : (design : List Record) (subject : Option Subject) (t : Touched) → (t.names ≡ []) × (t.stars ≡ []) × (t.component ≡ None) → TouchesOnly design subject t
none_is_touched design subject t told name among =
    let all : t.names ++ star_names t.stars ≡ [] = rw (told.0, told.1) refl in
    absurd (cc (sym (ap (λ ns. is_one_of ns name) all) ∙ among))

-- each change is of something
pub any_subject : (change : session.Change) → (subject : Option Subject) × IsSubject change subject
any_subject (Design edit) = (subject_of (change_of edit.now), refl)
any_subject (Text position) = (None, tt)
