-- What is noted of the nets of a text, one after the other.
use Rattle.std.proofs.Common.{◌≡◌, ◌∙◌, ◌<◌, ◌+◌, ◌||◌, ℕ, Bool, true, false, List, [], ◌∷◌, ◌++◌, drop, filter, get_or, length, map, refl, sym, ap, ap₂, append-nil, append_assoc, subst, take, Option, Some, None, Result, Ok, Err, if◌then◌else◌}
use Rattle.std.specs.Prelude.{IfOk, IfSome, flat_map}
use Rattle.std.specs.List.{AllByRecursion, list_any}
use Rattle.std.specs.Option.{option_map}
use Rattle.std.specs.Str.{bytes_eq}
use Rattle.std.proofs.lemmas.List.{drop_more, map-append, take_more}
use Rattle.std.proofs.lemmas.List.Concat.{flat_map-append}
use Rattle.std.proofs.lemmas.List.Elements.{filter-append}
use Rattle.std.proofs.lemmas.List.Folds.{list_any-append}
use Rattle.std.proofs.lemmas.Slice.Eq.{bytes_eq-Decides}
use Rattle.design_model.specs.declared.identifier.StmtId.{StmtId}
use Rattle.def_grammar.specs.Records.{Record}
use Rattle.def_grammar.specs.Terminals.{Terminal, is_of_all}
use Rattle.lef_grammar.specs.Library.{Library}
use Rattle.connection_rules.specs.NetParts.{Net, all_nets, net_named, net_names}
use Rattle.design_rules.specs.Boxes.{scale}
use Rattle.line_laws.specs.Lines.{SameThings}
use Rattle.net_laws.specs.NetChanges.{is_one_of}
use Rattle.net_laws.specs.NetsTold.{is_of_net, terminals_in, terminals_of}
use Rattle.followed_nets.specs.Listed.{AreApart}
use Rattle.followed_nets.specs.Noted.{said}
use Rattle.followed_nets.specs.Stars.{AreStarNames, IsStar, names_of}

none_of_both : (b c : Bool) → (b || c) ≡ false → (b ≡ false) × (c ≡ false)
none_of_both true c h = absurd (cc)
none_of_both false c h = (refl, h)

true_and_false : (b : Bool) → b ≡ true → b ≡ false → ⊥
true_and_false true h g = cc
true_and_false false h g = cc

-- one more statement, which lists a pin of all components or none
module _ (rs : List Record) (r : Record) where
  split : (net : List ℕ) → list_any is_of_all (terminals_in (rs ++ r ∷ []) net) ≡ (list_any is_of_all (terminals_in rs net) || list_any is_of_all (flat_map terminals_of (filter (is_of_net net) (r ∷ []))))
  split net =
      ap (λ (l : List Record). list_any is_of_all (flat_map terminals_of l)) (filter-append (is_of_net net) rs (r ∷ []))
      ∙ ap (list_any is_of_all) (flat_map-append terminals_of (filter (is_of_net net) rs) (filter (is_of_net net) (r ∷ [])))
      ∙ list_any-append is_of_all (terminals_in rs net) (flat_map terminals_of (filter (is_of_net net) (r ∷ [])))

  more_in : (net : List ℕ) → list_any is_of_all (terminals_in rs net) ≡ false → (is_of_net net r ≡ true → list_any is_of_all (terminals_of r) ≡ false)
      → list_any is_of_all (terminals_in (rs ++ r ∷ []) net) ≡ false
  more_in net none own =
      split net
      ∙ ap₂ (λ (a b : Bool). a || b) none (one (is_of_net net r) refl)
    where
      one : (b : Bool) → is_of_net net r ≡ b → list_any is_of_all (flat_map terminals_of (if b then r ∷ [] else [])) ≡ false
      one true is = ap (list_any is_of_all) (append-nil (terminals_of r)) ∙ own is
      one false is = refl

  -- what passed a test passes it also with one more
  still_in : (net : List ℕ) → list_any is_of_all (terminals_in rs net) ≡ true → list_any is_of_all (terminals_in (rs ++ r ∷ []) net) ≡ true
  still_in net some =
      split net
      ∙ ap (λ (b : Bool). b || list_any is_of_all (flat_map terminals_of (filter (is_of_net net) (r ∷ [])))) some

  own_in : (net : List ℕ) → is_of_net net r ≡ true → list_any is_of_all (terminals_of r) ≡ true → list_any is_of_all (terminals_in (rs ++ r ∷ []) net) ≡ true
  own_in net is own =
      split net
      ∙ ap (λ (b : Bool). list_any is_of_all (terminals_in rs net) || list_any is_of_all (flat_map terminals_of (if b then r ∷ [] else []))) is
      ∙ ap (λ (l : List Terminal). list_any is_of_all (terminals_in rs net) || list_any is_of_all l) (append-nil (terminals_of r))
      ∙ ap (λ (b : Bool). list_any is_of_all (terminals_in rs net) || b) own
      ∙ or_true (list_any is_of_all (terminals_in rs net))
    where
      or_true : (b : Bool) → (b || true) ≡ true
      or_true true = refl
      or_true false = refl

  pub with_star : (names then_names : List (List ℕ)) → AreApart then_names → ((net : List ℕ) → is_one_of then_names net ≡ (is_one_of names net || is_of_net net r))
      → list_any is_of_all (terminals_of r) ≡ true → AreStarNames rs names → AreStarNames (rs ++ r ∷ []) then_names
  with_star names then_names apart all lists are = record {
    apart = apart;
    all = λ net out.
        let both = none_of_both (is_one_of names net) (is_of_net net r) (sym (all net) ∙ out) in
        more_in net (are.all net both.0) (λ is. absurd (true_and_false (is_of_net net r) is both.1));
    own = λ net out. either net (is_one_of names net) refl (sym (all net) ∙ out);
  }
    where
      either : (net : List ℕ) (b : Bool) → is_one_of names net ≡ b → (b || is_of_net net r) ≡ true → list_any is_of_all (terminals_in (rs ++ r ∷ []) net) ≡ true
      either net true first h = still_in net (are.own net first)
      either net false first h = own_in net h lists

  pub without_star : (names : List (List ℕ)) → list_any is_of_all (terminals_of r) ≡ false → AreStarNames rs names → AreStarNames (rs ++ r ∷ []) names
  without_star names none are = record { apart = are.apart; all = λ net out. more_in net (are.all net out) (λ is. none); own = λ net is. still_in net (are.own net is) }

-- a net that stands among those of a design is that of its name
of_names : (library : Library) (design : List Record) (u : ℕ) (names : List (List ℕ)) (before : List Net) (n : Net) (behind : List Net) → before ++ n ∷ behind ≡ map (net_named library design u) names
    → n ≡ net_named library design u n.name
of_names library design u [] [] n behind is = absurd (cc)
of_names library design u [] (m ∷ before) n behind is = absurd (cc)
of_names library design u (name ∷ names) [] n behind is =
    let same : n ≡ net_named library design u name = cc in
    same ∙ ap (λ (m : Net). net_named library design u m.name) (sym same)
of_names library design u (name ∷ names) (m ∷ before) n behind is = of_names library design u names before n behind (cc)

pub star_among : (library : Library) (design : List Record) (nets before behind : List Net) (n : Net) (name : List ℕ) (e : Record) (others : List Record) → nets ≡ all_nets library design (scale design) → nets ≡ before ++ n ∷ behind
    → n.name ≡ name → filter (is_of_net name) design ≡ e ∷ others → IsStar library design n
star_among library design nets before behind n name e others all parts named entries =
    let same : n ≡ net_named library design (scale design) n.name = of_names library design (scale design) (net_names library design (scale design)) before n behind (sym parts ∙ all) in
    record {
      net = record { same_power = ap (λ (m : Net). m.is_power) same; same_parts = subst (λ (m : Net). SameThings n.parts m.parts) same (record { sums = λ w. refl }) };
      entry = e;
      others = others;
      entries = ap (λ (own : List ℕ). filter (is_of_net own) design) named ∙ entries;
    }

-- names beside those of nets that are kept with their parts
apart_both : (xs ys : List (List ℕ)) → AreApart xs → AreApart ys → ((n : List ℕ) → is_one_of xs n ≡ true → is_one_of ys n ≡ false) → AreApart (xs ++ ys)
apart_both [] ys one two other = two
apart_both (x ∷ xs) ys one two other = (
  list_any-append (λ n. bytes_eq n x) xs ys
      ∙ ap₂ (λ (a b : Bool). a || b) one.0 (other x (ap (λ (b : Bool). b || is_one_of xs x) ((bytes_eq-Decides x x).1 refl))),
  apart_both xs ys one.1 two (λ n there. other n (ap₂ (λ (a b : Bool). a || b) refl there ∙ or_true (bytes_eq x n))),
)
  where
    or_true : (b : Bool) → (b || true) ≡ true
    or_true true = refl
    or_true false = refl

-- some names were gone over
pub record AreOthers (names stars others : List (List ℕ)) : Type 0 where
  pub apart : AreApart others
  pub other : (net : List ℕ) → is_one_of others net ≡ true → is_one_of stars net ≡ false
  pub all : (net : List ℕ) → is_one_of names net ≡ true → is_one_of (others ++ stars) net ≡ true
  pub only : (net : List ℕ) → is_one_of others net ≡ true → is_one_of names net ≡ true

module _ (names stars : List (List ℕ)) (name : List ℕ) where
  one_last : (net : List ℕ) → is_one_of (names ++ name ∷ []) net ≡ true → (is_one_of names net || bytes_eq name net) ≡ true
  one_last net is = ap (λ (b : Bool). is_one_of names net || b) (sym (or_false (bytes_eq name net))) ∙ sym (list_any-append (λ n. bytes_eq n net) names (name ∷ [])) ∙ is
    where
      or_false : (b : Bool) → (b || false) ≡ b
      or_false true = refl
      or_false false = refl

  -- a name that was there is there with one more
  one_before : (net : List ℕ) → is_one_of names net ≡ true → is_one_of (names ++ name ∷ []) net ≡ true
  one_before net is = list_any-append (λ n. bytes_eq n net) names (name ∷ []) ∙ ap (λ (b : Bool). b || is_one_of (name ∷ []) net) is

  the_last : (net : List ℕ) → bytes_eq name net ≡ true → is_one_of (names ++ name ∷ []) net ≡ true
  the_last net is = list_any-append (λ n. bytes_eq n net) names (name ∷ []) ∙ ap (λ (b : Bool). is_one_of names net || (b || false)) is ∙ or_true (is_one_of names net)
    where
      or_true : (b : Bool) → (b || true) ≡ true
      or_true true = refl
      or_true false = refl

  -- one that is kept is left out
  pub one_kept : (others : List (List ℕ)) → is_one_of stars name ≡ true → AreOthers names stars others → AreOthers (names ++ name ∷ []) stars others
  one_kept others kept are = record { apart = are.apart; other = are.other; all = λ net is. each net (is_one_of names net) (bytes_eq name net) refl refl (one_last net is); only = λ net is. one_before net (are.only net is) }
    where
      each : (net : List ℕ) (a b : Bool) → is_one_of names net ≡ a → bytes_eq name net ≡ b → (a || b) ≡ true → is_one_of (others ++ stars) net ≡ true
      each net true b first this h = are.all net first
      each net false true first this h =
          list_any-append (λ n. bytes_eq n net) others stars
          ∙ ap (λ (c : Bool). is_one_of others net || c) (ap (is_one_of stars) (sym ((bytes_eq-Decides name net).0 this)) ∙ kept)
          ∙ or_true (is_one_of others net)
        where
          or_true : (c : Bool) → (c || true) ≡ true
          or_true true = refl
          or_true false = refl
      each net false false first this h = absurd (cc)

  -- and one that isn't comes to the others
  pub one_other : (others then_others : List (List ℕ)) → is_one_of stars name ≡ false → ((net : List ℕ) → is_one_of then_others net ≡ (is_one_of others net || bytes_eq name net)) → AreApart then_others
      → AreOthers names stars others → AreOthers (names ++ name ∷ []) stars then_others
  one_other others then_others other put apart are = record {
    apart = apart;
    other = λ net is. alone net (is_one_of others net) (bytes_eq name net) refl refl (sym (put net) ∙ is);
    all = λ net is. each net (is_one_of names net) (bytes_eq name net) refl refl (one_last net is);
    only = λ net is. came net (is_one_of others net) (bytes_eq name net) refl refl (sym (put net) ∙ is);
  }
    where
      came : (net : List ℕ) (a b : Bool) → is_one_of others net ≡ a → bytes_eq name net ≡ b → (a || b) ≡ true → is_one_of (names ++ name ∷ []) net ≡ true
      came net true b first this h = one_before net (are.only net first)
      came net false true first this h = the_last net this
      came net false false first this h = absurd (cc)

      alone : (net : List ℕ) (a b : Bool) → is_one_of others net ≡ a → bytes_eq name net ≡ b → (a || b) ≡ true → is_one_of stars net ≡ false
      alone net true b first this h = are.other net first
      alone net false true first this h = ap (is_one_of stars) (sym ((bytes_eq-Decides name net).0 this)) ∙ other
      alone net false false first this h = absurd (cc)

      among : (net : List ℕ) → (is_one_of others net || is_one_of stars net) ≡ true → is_one_of (then_others ++ stars) net ≡ true
      among net h = list_any-append (λ n. bytes_eq n net) then_others stars ∙ ap (λ (c : Bool). c || is_one_of stars net) (put net) ∙ more (is_one_of others net) (bytes_eq name net) (is_one_of stars net) h
        where
          more : (a b c : Bool) → (a || c) ≡ true → ((a || b) || c) ≡ true
          more true b c g = refl
          more false true c g = refl
          more false false c g = g

      each : (net : List ℕ) (a b : Bool) → is_one_of names net ≡ a → bytes_eq name net ≡ b → (a || b) ≡ true → is_one_of (then_others ++ stars) net ≡ true
      each net true b first this h = among net (sym (list_any-append (λ n. bytes_eq n net) others stars) ∙ are.all net first)
      each net false true first this h =
          list_any-append (λ n. bytes_eq n net) then_others stars
          ∙ ap (λ (c : Bool). c || is_one_of stars net) (put net ∙ ap (λ (c : Bool). is_one_of others net || c) this ∙ or_true (is_one_of others net))
        where
          or_true : (c : Bool) → (c || true) ≡ true
          or_true true = refl
          or_true false = refl
      each net false false first this h = absurd (cc)

pub all_others : (names stars others : List (List ℕ)) → AreOthers names stars others → AreApart stars → AreApart (others ++ stars)
all_others names stars others are apart = apart_both others stars are.apart apart are.other

-- one more in a loop over a list
pub up_to_next : {A B : Type 0} (f : A → B) (xs : List A) (i : ℕ) (x : A) → i < length xs → x ≡ get_or xs i x → map f (take (i + 1) xs) ≡ map f (take i xs) ++ f x ∷ []
up_to_next {B = B} f xs i x below is = ap (map f) (take_more xs i x below) ∙ map-append f (take i xs) (get_or xs i x ∷ []) ∙ ap (λ (y : _). map f (take i xs) ++ f y ∷ []) (sym is)

pub same_so_far : {A B : Type 0} (f : A → List ℕ) (g : B → List ℕ) (xs : List A) (ys : List B) (i : ℕ) (x : A) (y : B) → i < length xs → x ≡ get_or xs i x → i < length ys → y ≡ get_or ys i y → f x ≡ g y
    → map f (take i xs) ≡ map g (take i ys) → map f (take (i + 1) xs) ≡ map g (take (i + 1) ys)
same_so_far f g xs ys i x y below is below_too is_too same so_far =
    up_to_next f xs i x below is
    ∙ ap₂ (λ (l : List (List ℕ)) (n : List ℕ). l ++ n ∷ []) so_far same
    ∙ sym (up_to_next g ys i y below_too is_too)

pub names_seen : {A B : Type 0} (view : A → B) (name : B → List ℕ) (xs : List A) → map name (map view xs) ≡ map (λ (x : A). name (view x)) xs
names_seen view name [] = refl
names_seen view name (x ∷ xs) = ap (λ (l : List (List ℕ)). name (view x) ∷ l) (names_seen view name xs)

pub one_more_named : (stars : List Net) (names : List (List ℕ)) (i : ℕ) (n : List ℕ) (s : Net) → i < length names → n ≡ get_or names i n → s.name ≡ n → names_of stars ++ drop i names ≡ names
    → names_of (stars ++ s ∷ []) ++ drop (i + 1) names ≡ names
one_more_named stars names i n s below at named so_far =
    ap (λ (l : List (List ℕ)). l ++ drop (i + 1) names) (map-append (λ (m : Net). m.name) stars (s ∷ []))
    ∙ append_assoc (names_of stars) (s.name ∷ []) (drop (i + 1) names)
    ∙ ap (λ (l : List (List ℕ)). names_of stars ++ l) (ap (λ (name : List ℕ). name ∷ drop (i + 1) names) (named ∙ at) ∙ sym (drop_more names i n below))
    ∙ so_far

pub all_and_one : {A : Type 0} (P : A → Type 0) (xs : List A) (x : A) → AllByRecursion P xs → P x → AllByRecursion P (xs ++ x ∷ [])
all_and_one P [] x h p = (p, tt)
all_and_one P (y ∷ xs) x h p = (h.0, all_and_one P xs x h.1 p)

-- what is told of what a result may have
pub if_some : {A : Type 0} (P Q : A → Type 0) (o : Option A) → ((a : A) → P a → Q a) → IfSome o P → IfSome o Q
if_some P Q (Some a) f h = f a h
if_some P Q None f h = tt

pub if_ok_some : {A E : Type 0} (P Q : A → Type 0) (r : Result (Option A) E) → ((a : A) → P a → Q a) → IfOk r (λ o. IfSome o P) → IfOk r (λ o. IfSome o Q)
if_ok_some P Q (Ok o) f h = if_some P Q o f h
if_ok_some P Q (Err e) f h = tt

pub if_ok_both : {A E : Type 0} (P Q R : A → Type 0) (r : Result (Option A) E) → ((a : A) → P a → Q a → R a) → IfOk r (λ o. IfSome o P) → IfOk r (λ o. IfSome o Q) → IfOk r (λ o. IfSome o R)
if_ok_both P Q R (Ok (Some a)) f h k = f a h k
if_ok_both P Q R (Ok None) f h k = tt
if_ok_both P Q R (Err e) f h k = tt

pub if_seen : {A B : Type 0} (view : A → B) (P : B → Type 0) (o : Option A) → IfSome o (λ a. P (view a)) → IfSome (option_map view o) P
if_seen view P (Some a) h = h
if_seen view P None h = tt

pub said_up_to_next : {A : Type 0} (view : A → StmtId × Record) (xs : List A) (i : ℕ) (x : A) → i < length xs → x ≡ get_or xs i x → said (map view (take (i + 1) xs)) ≡ said (map view (take i xs)) ++ (view x).1 ∷ []
said_up_to_next view xs i x below is = ap said (up_to_next view xs i x below is) ∙ map-append (λ (y : StmtId × Record). y.1) (map view (take i xs)) (view x ∷ [])
