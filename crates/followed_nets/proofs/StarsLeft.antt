-- Nets that are kept with their parts, in which the pins of one component are exchanged one net after the other, from the last to the first.
use Rattle.std.proofs.Common.{◌≡◌, ◌∙◌, ◌+◌, ℕ, List, [], ◌∷◌, ◌++◌, append_assoc, filter, map, sum_by, refl, sym, ap, ap₂, arith, subst}
use Rattle.std.specs.Prelude.{reverse}
use Rattle.std.specs.List.{AllByRecursion}
use Rattle.std.proofs.lemmas.List.{append-nil, map-append, reverse-append}
use Rattle.std.proofs.lemmas.List.Sums.{sum_by-append, sum_by-cons}
use Rattle.def_grammar.specs.Records.{Record}
use Rattle.lef_grammar.specs.Library.{Library}
use Rattle.connection_rules.specs.NetLines.{class_lines}
use Rattle.connection_rules.specs.NetParts.{Net, Part, net_named}
use Rattle.design_rules.specs.Boxes.{scale}
use Rattle.kept_nets.specs.Parts.{shapes_in}
use Rattle.line_laws.specs.Lines.{SameThings}
use Rattle.net_laws.specs.NetsTold.{is_of_net}
use Rattle.net_laws.specs.StarNets.{OneComponentExchanged, PinsAreExchanged, pins_by_one}
use Rattle.net_queries.specs.PieceLaws.{PartsInAnyOrder}
use Rattle.followed_nets.specs.Exchanging.{name_of}
use Rattle.followed_nets.specs.StarExchanges.{AreItsPins, ArePinsOfNet, AreStarsThen, AwaitsStars}
use Rattle.followed_nets.specs.Stars.{IsStar, names_of}
use Rattle.followed_nets.specs.Told.{Told}
use Rattle.followed_nets.specs.Touched.{ArePinsBy, StarPins, star_names}
use Rattle.followed_nets.proofs.LastOnes.{all_before, same_last}
use Rattle.followed_nets.proofs.SameParts.{same_class_lines}

all_and_one : {A : Type 0} (P : A → Type 0) (xs : List A) (x : A) → AllByRecursion P xs → P x → AllByRecursion P (xs ++ x ∷ [])
all_and_one P [] x h p = (p, tt)
all_and_one P (y ∷ xs) x h p = (h.0, all_and_one P xs x h.1 p)

-- from the last to the first
all_turned : {A : Type 0} (P : A → Type 0) (xs : List A) → AllByRecursion P xs → AllByRecursion P (reverse xs)
all_turned P [] h = tt
all_turned P (x ∷ xs) h = subst (AllByRecursion P) (sym (reverse-append (x ∷ []) xs)) (all_and_one P (reverse xs) x (all_turned P xs h.1) h.0)

map_turned : {A B : Type 0} (f : A → B) (xs : List A) → map f (reverse xs) ≡ reverse (map f xs)
map_turned f [] = refl
map_turned {B = B} f (x ∷ xs) =
    ap (map f) (reverse-append (x ∷ []) xs)
    ∙ map-append f (reverse xs) (x ∷ [])
    ∙ ap (λ (l : List B). l ++ f x ∷ []) (map_turned f xs)
    ∙ sym (reverse-append (f x ∷ []) (map f xs))

-- Some are left: with those that are done they have the names that were there, and so do the pins that are told.
pub record StarsLeft (library : Library) (old new : List Record) (component : List ℕ) (all : List (List ℕ)) (stars : List Net) (before after : List StarPins) (done : List Net) (gone come : List Told) : Type 0 where
  pub awaits : AwaitsStars library old new component stars before after
  pub done_kept : AllByRecursion (IsStar library new) done
  pub order : names_of stars ++ reverse (names_of done) ≡ all
  pub gone_names : SameThings (map name_of gone ++ names_of stars) all
  pub come_names : SameThings (map name_of come ++ names_of stars) all
  pub gone_are : AreItsPins library old component gone
  pub come_are : AreItsPins library new component come

-- one net more is told
one_more_name : (ts : List Told) (t : Told) (stars ss : List Net) (s : Net) (all : List (List ℕ)) → t.name ≡ s.name → stars ≡ ss ++ s ∷ [] → SameThings (map name_of ts ++ names_of stars) all
    → SameThings (map name_of (ts ++ t ∷ []) ++ names_of ss) all
one_more_name ts t stars ss s all same is names = record {
  sums = λ w.
      let h = names.sums w in
      let e = ap (sum_by w) (map-append name_of ts (t ∷ [])) in
      let f = ap (λ (l : List Net). sum_by w (names_of l)) is ∙ ap (sum_by w) (map-append (λ (n : Net). n.name) ss (s ∷ [])) in
      let g = ap w same in
      omega (
        arith,
        h,
        e,
        f,
        g,
        sum_by-append w (map name_of ts) (t.name ∷ []),
        sum_by-cons w t.name [],
        sum_by-append w (names_of ss) (s.name ∷ []),
        sum_by-cons w s.name [],
        sum_by-append w (map name_of ts) (names_of stars),
        sum_by-append w (map name_of (ts ++ t ∷ [])) (names_of ss),
      );
}

module _ (library : Library) (old new : List Record) (component : List ℕ) (all : List (List ℕ)) where
  abbrev was : List ℕ → Net
  was name = net_named library old (scale old) name

  abbrev is_now : List ℕ → Net
  is_now name = net_named library new (scale new) name

  pub none_done : (stars : List Net) (before after : List StarPins) → names_of stars ≡ all → AwaitsStars library old new component stars before after
      → StarsLeft library old new component all stars before after [] [] []
  none_done stars before after is awaits = record {
    awaits = awaits;
    done_kept = tt;
    order = append-nil (names_of stars) ∙ is;
    gone_names = record { sums = λ w. ap (sum_by w) is };
    come_names = record { sums = λ w. ap (sum_by w) is };
    gone_are = tt;
    come_are = tt;
  }

  module _ (exchanged : OneComponentExchanged) (law : PartsInAnyOrder) (ss : List Net) (s : Net) (bs cs : List StarPins) (b c : StarPins) (stars : List Net) (before after : List StarPins) (done : List Net) (gone come : List Told)
      (left : StarsLeft library old new component all stars before after done gone come) (stars_are : stars ≡ ss ++ s ∷ []) (before_is : before ≡ bs ++ b ∷ []) (after_is : after ≡ cs ++ c ∷ []) where
    last_names : names_of stars ≡ names_of ss ++ s.name ∷ []
    last_names = ap names_of stars_are ∙ map-append (λ (n : Net). n.name) ss (s ∷ [])

    before_last : (star_names bs ≡ names_of ss) × (b.name ≡ s.name)
    before_last =
        same_last (star_names bs) (names_of ss) b.name s.name
        (sym (map-append (λ (p : StarPins). p.name) bs (b ∷ [])) ∙ ap star_names (sym before_is) ∙ left.awaits.before_names ∙ last_names)

    after_last : (star_names cs ≡ names_of ss) × (c.name ≡ s.name)
    after_last =
        same_last (star_names cs) (names_of ss) c.name s.name
        (sym (map-append (λ (p : StarPins). p.name) cs (c ∷ [])) ∙ ap star_names (sym after_is) ∙ left.awaits.after_names ∙ last_names)

    kept : AllByRecursion (IsStar library old) ss × IsStar library old s
    kept = all_before (IsStar library old) ss s (subst (AllByRecursion (IsStar library old)) stars_are left.awaits.kept)

    abbrev PinsIn : List Record → StarPins → Type 0
    PinsIn design p = p.pins ≡ pins_by_one library design (scale design) p.name component

    pins_before : ArePinsBy library old component bs × PinsIn old b
    pins_before = all_before (PinsIn old) bs b (subst (AllByRecursion (PinsIn old)) before_is left.awaits.before_pins)

    pins_after : ArePinsBy library new component cs × PinsIn new c
    pins_after = all_before (PinsIn new) cs c (subst (AllByRecursion (PinsIn new)) after_is left.awaits.after_pins)

    before_are : b.pins ≡ pins_by_one library old (scale old) s.name component
    before_are = pins_before.1 ∙ ap (λ (n : List ℕ). pins_by_one library old (scale old) n component) before_last.1

    after_are : c.pins ≡ pins_by_one library new (scale new) s.name component
    after_are = pins_after.1 ∙ ap (λ (n : List ℕ). pins_by_one library new (scale new) n component) after_last.1

    same_net : PinsAreExchanged library old new (scale old) s.name component
    same_net = exchanged library old new (scale old) s.name component (left.awaits.agree s.name)

    -- the net as it is kept then, and what is told of it
    module _ (then_star : Net) (g k : Told) (mid : List Part) (then_name : then_star.name ≡ s.name) (then_power : then_star.is_power ≡ s.is_power) (goes : ArePinsOfNet s b.pins g) (comes : ArePinsOfNet then_star c.pins k)
        (taken : SameThings s.parts (b.pins ++ mid)) (put_in : SameThings then_star.parts (c.pins ++ mid)) where
      then_parts : SameThings then_star.parts (is_now s.name).parts
      then_parts =
          let n = subst (λ (u : ℕ). SameThings (net_named library new u s.name).parts (pins_by_one library new u s.name component ++ same_net.stay)) left.awaits.scales same_net.exchange.new_is in
          record {
            sums = λ w.
                let x = taken.sums w in
                let y = put_in.sums w in
                let z = kept.1.net.same_parts.sums w in
                let o = same_net.exchange.old_is.sums w in
                let m = n.sums w in
                let d = ap (sum_by w) before_are in
                let e = ap (sum_by w) after_are in
                omega (
                  arith,
                  x,
                  y,
                  z,
                  o,
                  m,
                  d,
                  e,
                  sum_by-append w b.pins mid,
                  sum_by-append w c.pins mid,
                  sum_by-append w (pins_by_one library old (scale old) s.name component) same_net.stay,
                  sum_by-append w (pins_by_one library new (scale new) s.name component) same_net.stay,
                );
          }

      star_then : IsStar library new then_star
      star_then = record {
        net = record {
          same_power = then_power ∙ kept.1.net.same_power ∙ same_net.same_power ∙ ap₂ (λ (u : ℕ) (n : List ℕ). (net_named library new u n).is_power) left.awaits.scales (sym then_name);
          same_parts = subst (λ (n : List ℕ). SameThings then_star.parts (is_now n).parts) (sym then_name) then_parts;
        };
        entry = kept.1.entry;
        others = kept.1.others;
        entries = ap (λ (n : List ℕ). filter (is_of_net n) new) then_name ∙ sym (left.awaits.agree s.name).entries ∙ kept.1.entries;
      }

      gone_name : g.name ≡ s.name
      gone_name = goes.name_is

      come_name : k.name ≡ s.name
      come_name = comes.name_is ∙ then_name

      gone_is : ArePinsOfNet (was g.name) (pins_by_one library old (scale old) g.name component) g
      gone_is = record {
        name_is = refl;
        lines_are = goes.lines_are ∙ same_class_lines law s (was s.name) refl kept.1.net.same_parts ∙ ap (λ (n : List ℕ). class_lines (was n)) (sym gone_name);
        shapes_are = goes.shapes_are ∙ ap shapes_in (before_are ∙ ap (λ (n : List ℕ). pins_by_one library old (scale old) n component) (sym gone_name));
      }

      come_is : ArePinsOfNet (is_now k.name) (pins_by_one library new (scale new) k.name component) k
      come_is = record {
        name_is = refl;
        lines_are = comes.lines_are ∙ same_class_lines law then_star (is_now s.name) then_name then_parts ∙ ap (λ (n : List ℕ). class_lines (is_now n)) (sym come_name);
        shapes_are = comes.shapes_are ∙ ap shapes_in (after_are ∙ ap (λ (n : List ℕ). pins_by_one library new (scale new) n component) (sym come_name));
      }

      done_names : names_of (done ++ then_star ∷ []) ≡ names_of done ++ s.name ∷ []
      done_names = map-append (λ (n : Net). n.name) done (then_star ∷ []) ∙ ap (λ (n : List ℕ). names_of done ++ n ∷ []) then_name

      pub next_left : StarsLeft library old new component all ss bs cs (done ++ then_star ∷ []) (gone ++ g ∷ []) (come ++ k ∷ [])
      next_left = record {
        awaits = record {
          agree = left.awaits.agree;
          scales = left.awaits.scales;
          kept = kept.0;
          before_names = before_last.0;
          after_names = after_last.0;
          before_pins = pins_before.0;
          after_pins = pins_after.0;
        };
        done_kept = all_and_one (IsStar library new) done then_star left.done_kept star_then;
        order =
            ap (λ (ns : List (List ℕ)). names_of ss ++ reverse ns) done_names
            ∙ ap (λ (ns : List (List ℕ)). names_of ss ++ ns) (reverse-append (names_of done) (s.name ∷ []))
            ∙ sym (append_assoc (names_of ss) (s.name ∷ []) (reverse (names_of done)))
            ∙ ap (λ (ns : List (List ℕ)). ns ++ reverse (names_of done)) (sym last_names)
            ∙ left.order;
        gone_names = one_more_name gone g stars ss s all gone_name stars_are left.gone_names;
        come_names = one_more_name come k stars ss s all come_name stars_are left.come_names;
        gone_are = all_and_one (λ (t : Told). ArePinsOfNet (was t.name) (pins_by_one library old (scale old) t.name component) t) gone g left.gone_are gone_is;
        come_are = all_and_one (λ (t : Told). ArePinsOfNet (is_now t.name) (pins_by_one library new (scale new) t.name component) t) come k left.come_are come_is;
      }

  -- in the end
  names_in_the_end : (ts : List Told) (stars : List Net) → stars ≡ [] → SameThings (map name_of ts ++ names_of stars) all → SameThings (map name_of ts) all
  names_in_the_end ts stars none names =
      subst (λ (ns : List (List ℕ)). SameThings ns all) (ap (λ (l : List Net). map name_of ts ++ names_of l) none ∙ append-nil (map name_of ts)) names

  pub in_the_end : (stars : List Net) (before after : List StarPins) (done : List Net) (gone come : List Told) → stars ≡ [] → StarsLeft library old new component all stars before after done gone come
      → AreStarsThen library old new component all (reverse done) gone come
  in_the_end stars before after done gone come none left = record {
    kept = all_turned (IsStar library new) done left.done_kept;
    same_names = map_turned (λ (n : Net). n.name) done ∙ ap (λ (l : List Net). names_of l ++ reverse (names_of done)) (sym none) ∙ left.order;
    gone_names = names_in_the_end gone stars none left.gone_names;
    come_names = names_in_the_end come stars none left.come_names;
    gone_are = left.gone_are;
    come_are = left.come_are;
  }
