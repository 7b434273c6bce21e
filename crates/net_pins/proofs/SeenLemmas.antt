-- Pins that were seen, by their words.
use Rattle.std.proofs.Common.{◌≡◌, ℕ, ◌<◌, Bool, true, false, not, ◌==◌, length, subst, ◌&&◌, ◌||◌, List, [], ◌∷◌, ◌++◌, map, refl, sym, ap, ap₂, ◌∙◌, append_assoc, Bor, Option, Some, None, if◌then◌else◌}
use Rattle.std.specs.Option.{option_eq}
use Rattle.std.specs.List.{list_any}
use Rattle.std.specs.Str.{bytes_eq}
use Rattle.std.proofs.lemmas.List.{append-nil, map-append}
use Rattle.statement_model.specs.Grammar.{Key}
use Rattle.statement_model.specs.Reading.{is_among, same_words}
use Rattle.net_pins.specs.SeenViews.{AreNew, AreNoted, is_same_lent, is_same_pin, same_pins, words_in, words_of}
use Rattle.net_pins.specs.declared.seen_pins.PinWords.{PinWords}

with_true : (a : Bool) → a ≡ (a && true)
with_true true = refl
with_true false = refl

with_false : (a : Bool) → false ≡ (a && false)
with_false true = refl
with_false false = refl

-- two pins are one where their words are the same
same_in : (c d : Option (Bor (List ℕ))) (p q : List ℕ) → (option_eq is_same_lent c d && bytes_eq p q) ≡ same_words (words_in c p) (words_in d q)
same_in None None p q = with_true (bytes_eq p q)
same_in None (Some d) p q = with_false (bytes_eq p d.now)
same_in (Some c) None p q = with_false (bytes_eq c.now q)
same_in (Some c) (Some d) p q = ap (λ (b : Bool). bytes_eq c.now d.now && b) (with_true (bytes_eq p q))

is_eq : (a b : PinWords) → is_same_pin a b ≡ same_words (words_of a) (words_of b)
is_eq a b = same_in a.component b.component a.pin.now b.pin.now

seen_among : (k : PinWords) (ks : List PinWords) → list_any (is_same_pin k) ks ≡ is_among (map words_of ks) (words_of k)
seen_among k [] = refl
seen_among k (j ∷ ks) = ap₂ (λ (a b : Bool). a || b) (is_eq k j) (seen_among k ks)

-- the same, where the other one is asked
first_among : (k : PinWords) (ks : List PinWords) → list_any (λ (j : PinWords). is_same_pin j k) ks ≡ is_among (map words_of ks) (words_of k)
first_among k [] = refl
first_among k (j ∷ ks) = ap₂ (λ (a b : Bool). a || b) (same_pins.symm j k ∙ is_eq k j) (first_among k ks)

or_both : (a b c : Bool) → (a || (b || c)) ≡ ((a || b) || c)
or_both true b c = refl
or_both false b c = refl

among_both : (key : Key) (xs ys : List PinWords) → is_among (map words_of (xs ++ ys)) key ≡ (is_among (map words_of xs) key || is_among (map words_of ys) key)
among_both key [] ys = refl
among_both key (x ∷ xs) ys = ap (λ (b : Bool). same_words key (words_of x) || b) (among_both key xs ys) ∙ or_both (same_words key (words_of x)) (is_among (map words_of xs) key) (is_among (map words_of ys) key)

module _ (k : PinWords) (first further : List PinWords) (b : Bool) (is : b ≡ list_any (λ (j : PinWords). is_same_pin j k) first) where
  abbrev keys : List Key
  keys = map words_of (first ++ further)

  abbrev with_key : List Key → List Key
  with_key ks = ks ++ words_of k ∷ []

  -- one of the first
  pub is_first : b ≡ true → is_among keys (words_of k) ≡ true
  is_first t = among_both (words_of k) first further ∙ ap (λ (c : Bool). c || is_among (map words_of further) (words_of k)) (sym (first_among k first) ∙ sym is ∙ t)

  -- none of them, so that those behind them decide
  pub is_behind : b ≡ false → is_among keys (words_of k) ≡ list_any (is_same_pin k) further
  is_behind f =
      among_both (words_of k) first further
      ∙ ap (λ (c : Bool). c || is_among (map words_of further) (words_of k)) (sym (first_among k first) ∙ sym is ∙ f)
      ∙ sym (seen_among k further)

  pub is_kept : b ≡ true → keys ≡ (if is_among keys (words_of k) then keys else with_key keys)
  is_kept t = ap (λ (c : Bool). if c then keys else with_key keys) (sym (is_first t))

  -- one that is put behind the first, where there are no others
  pub is_new_first : b ≡ false → further ≡ [] → is_among keys (words_of k) ≡ false
  is_new_first f none = is_behind f ∙ ap (list_any (is_same_pin k)) none

  pub with_first : b ≡ false → further ≡ [] → map words_of ((first ++ k ∷ []) ++ further) ≡ (if is_among keys (words_of k) then keys else with_key keys)
  with_first f none =
      ap (λ (ks : List PinWords). map words_of ((first ++ k ∷ []) ++ ks)) none
      ∙ ap (map words_of) (append-nil (first ++ k ∷ []))
      ∙ map-append words_of first (k ∷ [])
      ∙ ap (λ (ks : List PinWords). with_key (map words_of ks)) (sym (append-nil first) ∙ ap (λ (ks : List PinWords). first ++ ks) (sym none))
      ∙ ap (λ (c : Bool). if c then keys else with_key keys) (sym (is_new_first f none))

  -- one that is put behind the others
  put_behind : (c : Bool) → map words_of (first ++ (if c then further else further ++ k ∷ [])) ≡ (if c then keys else with_key keys)
  put_behind true = refl
  put_behind false = ap (map words_of) (sym (append_assoc first further (k ∷ []))) ∙ map-append words_of (first ++ further) (k ∷ [])

  pub with_further : b ≡ false → map words_of (first ++ (if list_any (is_same_pin k) further then further else further ++ k ∷ [])) ≡ (if is_among keys (words_of k) then keys else with_key keys)
  with_further f = put_behind (list_any (is_same_pin k) further) ∙ ap (λ (c : Bool). if c then keys else with_key keys) (sym (is_behind f))

  -- the same, where all but the first were put into the table before
  pub with_listed : b ≡ false → (table more unlisted : List PinWords) → table ≡ further → more ≡ (if list_any (is_same_pin k) table then table else table ++ k ∷ []) → unlisted ≡ []
      → map words_of (first ++ (more ++ unlisted)) ≡ (if is_among keys (words_of k) then keys else with_key keys)
  with_listed f table more unlisted same put none =
      ap (λ (ks : List PinWords). map words_of (first ++ (more ++ ks))) none
      ∙ ap (λ (ks : List PinWords). map words_of (first ++ ks)) (append-nil more ∙ put)
      ∙ ap (λ (t : List PinWords). map words_of (first ++ (if list_any (is_same_pin k) t then t else t ++ k ∷ []))) same
      ∙ with_further f

-- pins that are put into a table behind those that stand there
pub record ArePut (all : List PinWords) (table left : List PinWords) : Type 0 where
  pub same : table ++ left ≡ all
  pub new : AreNew table left

put_one : (c : Bool) (table more : List PinWords) (k : PinWords) → c ≡ false → more ≡ (if c then table else table ++ k ∷ []) → more ≡ table ++ k ∷ []
put_one true table more k f is = cc
put_one false table more k f is = is

pub one_put : (all table left rest more : List PinWords) (k : PinWords) → left ≡ k ∷ rest → ArePut all table left
    → more ≡ (if list_any (is_same_pin k) table then table else table ++ k ∷ []) → ArePut all more rest
one_put all table left rest more k is p put =
    let news : AreNew table (k ∷ rest) = subst (AreNew table) is p.new in
    let behind = put_one (list_any (is_same_pin k) table) table more k news.0 put in
    record {
      same = ap (λ (t : List PinWords). t ++ rest) behind ∙ append_assoc table (k ∷ []) rest ∙ ap (λ (l : List PinWords). table ++ l) (sym is) ∙ p.same;
      new = subst (λ (t : List PinWords). AreNew t rest) (sym behind) news.1;
    }

pub all_put : (all table left : List PinWords) → left ≡ [] → ArePut all table left → table ≡ all
all_put all table left none p = sym (append-nil table) ∙ ap (λ (l : List PinWords). table ++ l) (sym none) ∙ p.same

-- one more pin that isn't in the table yet
new_behind : (further unlisted : List PinWords) (k : PinWords) → AreNew further unlisted → list_any (is_same_pin k) (further ++ unlisted) ≡ false → AreNew further (unlisted ++ k ∷ [])
new_behind further [] k are none = (sym (ap (list_any (is_same_pin k)) (append-nil further)) ∙ none, tt)
new_behind further (u ∷ us) k are none = (are.0, new_behind (further ++ u ∷ []) us k are.1 (ap (list_any (is_same_pin k)) (append_assoc further (u ∷ []) us) ∙ none))

or_right : (a b : Bool) → (a || b) ≡ false → b ≡ false
or_right true b h = cc
or_right false b h = h

-- what isn't among all is none of those behind the first
new_than_further : (k : PinWords) (first further : List PinWords) → is_among (map words_of (first ++ further)) (words_of k) ≡ false → list_any (is_same_pin k) further ≡ false
new_than_further k first further none =
    seen_among k further ∙ or_right (is_among (map words_of first) (words_of k)) (is_among (map words_of further) (words_of k)) (sym (among_both (words_of k) first further) ∙ none)

pub noted_none : AreNoted [] [] []
noted_none = record { few = λ h. refl; new = tt }

pub noted_listed : (first further : List PinWords) → (length first < 8 → ⊥) → AreNoted first further []
noted_listed first further many = record { few = λ h. absurd (many h); new = tt }

pub noted_first : (first first_now further unlisted : List PinWords) → length first < 8 → AreNoted first further unlisted → AreNoted first_now further unlisted
noted_first first first_now further unlisted h p = record { few = λ _. p.few h; new = p.new }

pub noted_unlisted : (first further unlisted more : List PinWords) (k : PinWords) → (length first < 8 → ⊥) → AreNoted first further unlisted → is_among (map words_of (first ++ (further ++ unlisted))) (words_of k) ≡ false
    → more ≡ unlisted ++ k ∷ [] → AreNoted first further more
noted_unlisted first further unlisted more k many p none is = record {
  few = λ h. absurd (many h);
  new = subst (AreNew further) (sym is) (new_behind further unlisted k p.new (new_than_further k first (further ++ unlisted) none));
}

-- where nothing is noted there is no first one
no_first : (first rest : List PinWords) → map words_of (first ++ rest) ≡ [] → first ≡ []
no_first [] rest none = refl
no_first (k ∷ ks) rest none = let not_so : ⊥ = cc in absurd not_so

pub empty_first : (first rest : List PinWords) → map words_of (first ++ rest) ≡ [] → (length first == 0) ≡ true
empty_first first rest none = rw (no_first first rest none) refl
