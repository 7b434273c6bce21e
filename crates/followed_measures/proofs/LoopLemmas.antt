-- Nets that are exchanged one after the other, from the last on.
use Rattle.std.proofs.Common.{◌≡◌, ◌∙◌, ℕ, Bool, false, true, ◌||◌, List, [], ◌∷◌, ◌++◌, append-nil, append_assoc, map, refl, sym, ap, subst, sum_by, if◌then◌else◌}
use Rattle.std.specs.List.{AllByRecursion}
use Rattle.std.specs.Str.{bytes_eq}
use Rattle.std.proofs.lemmas.List.{map-append}
use Rattle.def_grammar.specs.Records.{Record}
use Rattle.lef_grammar.specs.Library.{Library}
use Rattle.lef_grammar.specs.Measures.{Shape}
use Rattle.connection_rules.specs.NetLines.{NetShape, shapes_of_net}
use Rattle.connection_rules.specs.NetParts.{net_named}
use Rattle.design_rules.specs.Boxes.{scale}
use Rattle.line_laws.specs.Lines.{SameThings}
use Rattle.net_laws.specs.NetChanges.{is_one_of}
use Rattle.reports.specs.Answers.{Answers, box_in, length_in}
use Rattle.reports.specs.Exchanges.{NetExchanged}
use Rattle.followed_nets.specs.Listed.{AreApart}
use Rattle.followed_nets.specs.StarHeads.{ArePinShapes, IsPinsBy, PinShapes, pin_names}
use Rattle.followed_measures.specs.Exchanging.{AwaitsStar, AwaitsStars}
use Rattle.followed_measures.specs.ExchangedNets.{HasNet, NetsExchanged, nets_of, shapes_of}
use Rattle.followed_measures.specs.Told.{IsNetIn, ToldNet, told_names}
use Rattle.followed_measures.proofs.ExchangeLemmas.{exchange_of_more, exchange_of_none, exchange_of_one}

-- the nets behind those that are left were exchanged
pub record NetsLeft (library : Library) (old new : List Record) (all left : List (List ℕ)) (before now : Answers) : Type 0 where
  pub done : List (List ℕ)
  pub order : all ≡ left ++ done
  pub made : NetsExchanged library old new done before now

-- the last of some
module _ {A : Type 0} (P : A → Type 0) where
  pub last_of : (xs : List A) (x : A) → AllByRecursion P (xs ++ x ∷ []) → AllByRecursion P xs × P x
  last_of [] x all = (tt, all.0)
  last_of (y ∷ xs) x all = let rest = last_of xs x all.1 in ((all.0, rest.0), rest.1)

module _ (library : Library) (old new : List Record) where
  pub none_done : (all : List (List ℕ)) (a : Answers) → NetsLeft library old new all all a a
  none_done all a = record { done = []; order = sym (append-nil all); made = exchange_of_none library old new a }

  pub next_done : (all left : List (List ℕ)) (name : List ℕ) (a b c : Answers) → NetsLeft library old new all (left ++ name ∷ []) a b → NetsExchanged library old new (name ∷ []) b c → NetsLeft library old new all left a c
  next_done all left name a b c so_far next = record {
    done = name ∷ so_far.done;
    order = so_far.order ∙ append_assoc left (name ∷ []) so_far.done;
    made = exchange_of_more library old new so_far.done (name ∷ []) a b c so_far.made next;
  }

  pub all_done : (all left : List (List ℕ)) (a b : Answers) → left ≡ [] → NetsLeft library old new all left a b → NetsExchanged library old new all a b
  all_done all left a b none so_far =
      subst (λ (names : List (List ℕ)). NetsExchanged library old new names a b) (sym (so_far.order ∙ ap (λ (names : List (List ℕ)). names ++ so_far.done) none)) so_far.made

-- Nets that are told. The last of those that are left is exchanged.
pub record ToldLeft (library : Library) (old new : List Record) (all left : List ToldNet) (before now : Answers) : Type 0 where
  pub are : AllByRecursion (IsNetIn library old) left
  pub nets : NetsLeft library old new (told_names all) (told_names left) before now

module _ (library : Library) (old new : List Record) (all : List ToldNet) where
  pub none_told : (a : Answers) → AllByRecursion (IsNetIn library old) all → ToldLeft library old new all all a a
  none_told a are = record { are = are; nets = none_done library old new (told_names all) a }

  pub next_told : (with_last left : List ToldNet) (t : ToldNet) (a b c : Answers) → with_last ≡ left ++ t ∷ [] → ToldLeft library old new all with_last a b → (IsNetIn library old t → NetsExchanged library old new (t.name ∷ []) b c)
      → ToldLeft library old new all left a c
  next_told with_last left t a b c is so_far next =
      let both = last_of (IsNetIn library old) left t (subst (AllByRecursion (IsNetIn library old)) is so_far.are) in
      record {
        are = both.0;
        nets = next_done library old new (told_names all) (told_names left) t.name a b c
            (subst (λ (names : List (List ℕ)). NetsLeft library old new (told_names all) names a b) (ap told_names is ∙ map-append (λ (u : ToldNet). u.name) left (t ∷ [])) so_far.nets)
            (next both.1);
      }

-- Nets that list a pin of all components.
pub record StarsLeft (library : Library) (old new : List Record) (component : List ℕ) (all left after : List PinShapes) (before now : Answers) : Type 0 where
  pub awaits : AwaitsStars library old new component left after before
  pub apart : AreApart (pin_names all)
  pub nets : NetsLeft library old new (pin_names all) (pin_names left) before now

-- names before others that none of them has
not_later : (left done : List (List ℕ)) (name : List ℕ) → AreApart ((left ++ name ∷ []) ++ done) → is_one_of done name ≡ false
not_later [] done name apart = apart.0
not_later (n ∷ left) done name apart = not_later left done name apart.1

or_first : (a b c : Bool) → (a || b) ≡ false → (b ≡ false → c ≡ false) → (a || c) ≡ false
or_first true b c h g = absurd (cc)
or_first false b c h g = g h

not_before : (ns : List (List ℕ)) (m n : List ℕ) → is_one_of (ns ++ m ∷ []) n ≡ false → is_one_of ns n ≡ false
not_before [] m n h = refl
not_before (k ∷ ns) m n h = or_first (bytes_eq k n) (is_one_of (ns ++ m ∷ []) n) (is_one_of ns n) h (not_before ns m n)

still_apart : (left : List (List ℕ)) (name : List ℕ) → AreApart (left ++ name ∷ []) → AreApart left
still_apart [] name apart = tt
still_apart (n ∷ left) name apart = (not_before left name n apart.0, still_apart left name apart.1)

module _ (library : Library) (old new : List Record) (component : List ℕ) (all : List PinShapes) where
  pub no_star : (after : List PinShapes) (a : Answers) → AwaitsStars library old new component all after a → StarsLeft library old new component all all after a a
  no_star after a awaits = record { awaits = awaits; apart = awaits.apart; nets = none_done library old new (pin_names all) a }

  -- a net that wasn't exchanged yet is answered on as before
  module _ (done : List (List ℕ)) (name : List ℕ) (a b : Answers) (made : NetsExchanged library old new done a b) (other : is_one_of done name ≡ false) (had : HasNet library old a name) where
    not_exchanged : {B : Type 0} (mine others : B) (t : Bool) → t ≡ false → (if t then mine else others) ≡ others
    not_exchanged mine others true h = absurd (cc)
    not_exchanged mine others false h = refl

    still_has : HasNet library old b name
    still_has = record {
      net_length = made.net_length name ∙ not_exchanged _ (length_in a name) (is_one_of done name) other ∙ had.net_length;
      net_box = made.net_box name ∙ not_exchanged _ (box_in a name) (is_one_of done name) other ∙ had.net_box;
    }

  pub next_star : (with_last left with_first after : List PinShapes) (p q : PinShapes) (a b c : Answers) → with_last ≡ left ++ p ∷ [] → with_first ≡ after ++ q ∷ [] → StarsLeft library old new component all with_last with_first a b
      → (AwaitsStar library old new component p q b → NetsExchanged library old new (p.name ∷ []) b c) → StarsLeft library old new component all left after a c
  next_star with_last left with_first after p q a b c is its so_far next =
      let names : pin_names with_last ≡ pin_names left ++ p.name ∷ [] = ap pin_names is ∙ map-append (λ (r : PinShapes). r.name) left (p ∷ []) in
      let awaits = so_far.awaits in
      let goes = last_of (IsPinsBy library old component) left p (subst (ArePinShapes library old component) is awaits.go) in
      let comes = last_of (IsPinsBy library new component) after q (subst (ArePinShapes library new component) its awaits.come) in
      let order : AreApart ((pin_names left ++ p.name ∷ []) ++ so_far.nets.done) = subst AreApart (so_far.nets.order ∙ ap (λ (ns : List (List ℕ)). ns ++ so_far.nets.done) names) so_far.apart in
      record {
        awaits = record {
          had = awaits.had;
          agree = awaits.agree;
          scales = awaits.scales;
          go = goes.0;
          come = comes.0;
          apart = still_apart (pin_names left) p.name (subst AreApart names awaits.apart);
        };
        apart = so_far.apart;
        nets = next_done library old new (pin_names all) (pin_names left) p.name a b c
            (subst (λ (ns : List (List ℕ)). NetsLeft library old new (pin_names all) ns a b) names so_far.nets)
            (next (record {
              had = still_has so_far.nets.done p.name a b so_far.nets.made (not_later (pin_names left) so_far.nets.done p.name order) (awaits.had p.name);
              agree = awaits.agree;
              scales = awaits.scales;
              goes = goes.1;
              comes = comes.1;
            }));
      }

-- one more behind some
pub one_more : {A : Type 0} (P : A → Type 0) (xs : List A) (x : A) → AllByRecursion P xs → P x → AllByRecursion P (xs ++ x ∷ [])
one_more P [] x are own = (own, tt)
one_more P (y ∷ xs) x are own = (are.0, one_more P xs x are.1 own)

-- a net that is told in both designs
pub exchange_of_net : (library : Library) (old new : List Record) (before after : ToldNet) (a b : Answers) → IsNetIn library old before → IsNetIn library new after → after.name ≡ before.name
    → NetExchanged before.name before.net_length after.net_length before.shapes after.shapes after.bounds a b → NetsExchanged library old new (before.name ∷ []) a b
exchange_of_net library old new before after a b was is same e =
    let name = before.name in
    let now : IsNetIn library new (record { name = name; net_length = after.net_length; shapes = after.shapes; bounds = after.bounds }) =
    subst (λ (n : List ℕ). IsNetIn library new (record { name = n; net_length = after.net_length; shapes = after.shapes; bounds = after.bounds })) same is in
    exchange_of_one library old new name before.net_length after.net_length before.shapes after.shapes [] after.bounds a b e (was.some, was.tell) (now.some, now.tell) was.length_is now.length_is now.bounds_are
    (alone old before.shapes was.shapes_are) (alone new after.shapes now.shapes_are)
  where
    alone : (design : List Record) (shapes : List Shape) → shapes ≡ map (λ (s : NetShape). s.shape) (shapes_of_net (net_named library design (scale design) before.name)) → SameThings (shapes_of (nets_of library design (before.name ∷ []))) (shapes ++ [])
    alone design shapes are = record {
      sums = λ w. ap (sum_by w) (ap (map (λ (s : NetShape). s.shape)) (append-nil (shapes_of_net (net_named library design (scale design) before.name))) ∙ sym are ∙ sym (append-nil shapes));
    }
